use Rattle.seq_kernel.proofs.KeptRunning.{own_blocks_are_beside}
use Rattle.seq_kernel.proofs.laws.own_blocks_are_beside.Goals as goal

pub returns : goal.returns
returns c = own_blocks_are_beside
