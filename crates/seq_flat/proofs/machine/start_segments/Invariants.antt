use Rattle.std.proofs.Common.{◌≡◌, map, take}
use Rattle.seq_flat.specs.State.{start_segment}
use Rattle.seq_flat.proofs.machine.start_segments.Given as goal

abbrev pub invariant-loop-segment : goal.invariant-loop-segment
invariant-loop-segment l = l.started ≡ map start_segment (take l.segment-index l.segments)
