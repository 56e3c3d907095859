use Rattle.std.proofs.Common.{◌≡◌, take}
use Rattle.std.specs.Prelude.{sum_by, count_ones}
use Rattle.seq_schedule.proofs.needed.line_count.Given as goal

abbrev pub invariant-loop-process : goal.invariant-loop-process
invariant-loop-process l = l.lines ≡ sum_by (λ p. count_ones p.lines) (take l.process-index l.desc.processes)
