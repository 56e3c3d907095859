use Rattle.seq_image.proofs.Depends.{shown_by_the_area, shows_all_that_agree}
use Rattle.seq_image.proofs.ahead.shown_by_the_area.Goals as goal

pub returns-clause-blocks : goal.returns-clause-blocks
returns-clause-blocks c = shown_by_the_area

pub returns-clause-states : goal.returns-clause-states
returns-clause-states c = shows_all_that_agree
