use Rattle.seq_invariant.proofs.BlockTurns.{steps_keep}
use Rattle.seq_invariant.proofs.blocks.steps_keep.Goals as goal

pub returns : goal.returns
returns c = steps_keep
