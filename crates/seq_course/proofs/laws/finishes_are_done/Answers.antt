use Rattle.seq_course.proofs.Right.{finishes_are_done}
use Rattle.seq_course.proofs.laws.finishes_are_done.Goals as goal

pub returns : goal.returns
returns c = finishes_are_done
