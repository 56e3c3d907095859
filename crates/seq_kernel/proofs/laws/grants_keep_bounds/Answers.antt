use Rattle.seq_kernel.proofs.KeptRunning.{grants_keep_bounds}
use Rattle.seq_kernel.proofs.laws.grants_keep_bounds.Goals as goal

pub returns : goal.returns
returns c = grants_keep_bounds
