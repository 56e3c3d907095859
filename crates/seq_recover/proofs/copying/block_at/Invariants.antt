use Rattle.std.proofs.Common.{◌≡◌, ◌+◌, length}
use Rattle.seq_layout.specs.Copies.{copies}
use Rattle.seq_recover.proofs.Listed.{so_far}
use Rattle.seq_recover.proofs.copying.block_at.Given as goal

-- the blocks of the process and of the segments so far come before
abbrev pub invariant-loop-segment : goal.invariant-loop-segment
invariant-loop-segment l = length (so_far l.desc (copies l.layout l.memories) l.pid.0 l.segment) + l.left ≡ l.n
