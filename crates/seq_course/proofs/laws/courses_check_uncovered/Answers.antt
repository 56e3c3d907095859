use Rattle.seq_course.proofs.Right.{courses_check_uncovered}
use Rattle.seq_course.proofs.laws.courses_check_uncovered.Goals as goal

pub returns : goal.returns
returns c = courses_check_uncovered c.checks_are_uncovered.ensures
