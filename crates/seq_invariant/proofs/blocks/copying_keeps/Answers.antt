use Rattle.seq_invariant.proofs.BlockRecovered.{copying_keeps}
use Rattle.seq_invariant.proofs.blocks.copying_keeps.Goals as goal

pub returns : goal.returns
returns c = copying_keeps
