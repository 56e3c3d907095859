use Rattle.seq_course.proofs.Right.{courses_are_right, ends_are_right, stops_are_right}
use Rattle.seq_course.proofs.laws.courses_are_right.Goals as goal

pub returns : goal.returns
returns c = record { whole = courses_are_right; ends = ends_are_right; stops = stops_are_right }
