use Rattle.std.proofs.Common.{◌≡◌, replicate}
use Rattle.seq_flat.specs.State.{no_line}
use Rattle.seq_flat.proofs.machine.start_lines.Given as goal

abbrev pub invariant-loop-number : goal.invariant-loop-number
invariant-loop-number l = l.started ≡ replicate l.number no_line
