use Rattle.seq_image.proofs.Writing.{writing_lays_over, what_is_left_stays}
use Rattle.seq_image.proofs.images.units_lie_over.Goals as goal

pub returns-clause-over : goal.returns-clause-over
returns-clause-over c = writing_lays_over

pub returns-clause-stays : goal.returns-clause-stays
returns-clause-stays c = what_is_left_stays
