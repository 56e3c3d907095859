use Rattle.seq_flat.proofs.ReachedStart.{start_has_shape}
use Rattle.seq_flat.proofs.ReachedStates.{steps_keep_shape}
use Rattle.seq_flat.proofs.laws.shape_stays.Goals as goal

pub returns-clause-start : goal.returns-clause-start
returns-clause-start c = start_has_shape

pub returns-clause-steps : goal.returns-clause-steps
returns-clause-steps c = steps_keep_shape
