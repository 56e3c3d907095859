-- While lines are within their bounds the memories may be read by a process's step.
use Rattle.seq_layout.specs.Shapes.{shape_of}
use Rattle.seq_layout.specs.Copies.{first_copy}
use Rattle.seq_layout.proofs.CopiesLaws.{all_are_served}
use Rattle.seq_layout.specs.Shapes.{line_extent}
use Rattle.seq_stands.specs.FitLines.{LinesAreReadable}

pub lines_are_readable : LinesAreReadable
lines_are_readable d m described st fits = record {
  served = all_are_served (shape_of d) m.copies described.memories.low_at st.service.one_out;
  counts = λ l. fits.words l 0 (first_copy (shape_of d) m.copies (line_extent (shape_of d) l));
}
