use Rattle.std.proofs.Common.{◌≡◌, ◌++◌, drop}
use Rattle.seq_report.specs.Texts.{process_lines}
use Rattle.seq_report.proofs.reports.put_processes.Given as goal

abbrev pub invariant-loop-process : goal.invariant-loop-process
invariant-loop-process l = record {
  said : l.out ++ process_lines l.number (drop l.process-index l.processes) ≡ l.initial.out ++ process_lines 0 l.processes;
  number : l.number ≡ l.process-index;
}
