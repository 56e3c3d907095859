use Rattle.std.proofs.Common.{◌≡◌, ◌/◌, take}
use Rattle.std.specs.Prelude.{sum_by}
use Rattle.seq_schedule.proofs.needed.segment_blocks.Given as goal

abbrev pub invariant-loop-segment : goal.invariant-loop-segment
invariant-loop-segment l = l.blocks ≡ sum_by (λ s. s.size / 32) (take l.segment-index l.desc.segments)
