use Rattle.seq_invariant.proofs.PartsCleared.{none_is_left}
use Rattle.seq_invariant.proofs.parts.none_is_left.Goals as goal

pub returns : goal.returns
returns c = none_is_left
