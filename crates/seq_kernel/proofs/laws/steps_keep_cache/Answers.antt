use Rattle.seq_kernel.proofs.KeptSteps.{steps_keep_cache}
use Rattle.seq_kernel.proofs.laws.steps_keep_cache.Goals as goal

pub returns : goal.returns
returns c = steps_keep_cache
