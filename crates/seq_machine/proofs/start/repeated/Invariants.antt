-- the copies that stand already
use Rattle.std.proofs.Common.{◌≡◌, replicate}
use Rattle.seq_machine.proofs.start.repeated.Given as goal

abbrev pub invariant-loop-number : goal.invariant-loop-number
invariant-loop-number g l = l.items ≡ replicate l.number l.item
