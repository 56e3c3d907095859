use Rattle.seq_invariant.proofs.PartsResting.{resting_areas_hold}
use Rattle.seq_invariant.proofs.parts.resting_areas_hold.Goals as goal

pub returns : goal.returns
returns c = resting_areas_hold
