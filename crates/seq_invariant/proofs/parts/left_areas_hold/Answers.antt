use Rattle.seq_invariant.proofs.PartsLeft.{left_areas_hold}
use Rattle.seq_invariant.proofs.parts.left_areas_hold.Goals as goal

pub returns : goal.returns
returns c = left_areas_hold
