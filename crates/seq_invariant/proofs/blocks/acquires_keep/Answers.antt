use Rattle.seq_invariant.proofs.BlockTurns.{acquires_keep}
use Rattle.seq_invariant.proofs.blocks.acquires_keep.Goals as goal

pub returns : goal.returns
returns c = acquires_keep
