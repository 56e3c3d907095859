use Rattle.seq_invariant.proofs.BlockTurns.{releases_keep}
use Rattle.seq_invariant.proofs.blocks.releases_keep.Goals as goal

pub returns : goal.returns
returns c = releases_keep
