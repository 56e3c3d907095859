use Rattle.seq_invariant.proofs.IoBlocks.{io_keeps_blocks}
use Rattle.seq_invariant.proofs.together.io_keeps_blocks.Goals as goal

pub returns : goal.returns
returns c = io_keeps_blocks
