-- No memory below the next one is such a memory.
use Rattle.std.proofs.Common.{◌≡◌, None}
use Rattle.seq_layout.specs.Copies.{copies}
use Rattle.seq_ruling.specs.Lowest.{lowest}
use Rattle.seq_ruling.specs.Checks.{is_another_out}
use Rattle.seq_ruling.proofs.checks.another_out.Given as goal

abbrev pub invariant-loop-at : goal.invariant-loop-at
invariant-loop-at l = lowest (is_another_out (copies l.layout l.memories) l.me.0) l.at ≡ None
