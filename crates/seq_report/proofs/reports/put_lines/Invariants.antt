use Rattle.std.proofs.Common.{◌≡◌, ◌++◌, drop}
use Rattle.seq_report.specs.Texts.{sent_lines}
use Rattle.seq_report.proofs.reports.put_lines.Given as goal

abbrev pub invariant-loop-count : goal.invariant-loop-count
invariant-loop-count l = record {
  said : l.out ++ sent_lines l.hung l.number (drop l.count-index l.sent) ≡ l.initial.out ++ sent_lines l.hung 0 l.sent;
  number : l.number ≡ l.count-index;
}
