use Rattle.seq_invariant.proofs.Gives.{settled_is_done}
use Rattle.seq_invariant.proofs.laws.settled_is_done.Goals as goal

pub returns : goal.returns
returns c = settled_is_done
