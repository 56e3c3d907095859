-- the segments that stand already
use Rattle.seq_layout.specs.Copies.{Matches, copies}
use Rattle.seq_layout.specs.Shapes.{segment_extent}
use Rattle.seq_start.specs.Begun.{start_image, up_to, Hold}
use Rattle.seq_start.proofs.memories.put_segments.Given as goal

abbrev pub invariant-loop-segment : goal.invariant-loop-segment
invariant-loop-segment l = record {
  matches : Matches l.layout l.memories;
  holds : Hold l.layout (copies l.layout l.memories) (up_to (start_image l.desc) (segment_extent l.layout l.segment) 0);
}
