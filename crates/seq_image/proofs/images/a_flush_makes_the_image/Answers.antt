use Rattle.seq_image.proofs.FlushedUnits.{flush_stays_inside, passes_make_image}
use Rattle.seq_image.proofs.FlushedImages.{flush_makes_image, reads_over_first}
use Rattle.seq_image.proofs.images.a_flush_makes_the_image.Goals as goal

pub returns-clause-image : goal.returns-clause-image
returns-clause-image c = flush_makes_image

pub returns-clause-reads : goal.returns-clause-reads
returns-clause-reads c = reads_over_first

pub returns-clause-units : goal.returns-clause-units
returns-clause-units c = flush_stays_inside

pub returns-clause-passes : goal.returns-clause-passes
returns-clause-passes c = passes_make_image
