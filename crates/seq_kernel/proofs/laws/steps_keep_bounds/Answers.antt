use Rattle.seq_kernel.proofs.KeptRunning.{strikes_keep_bounds}
use Rattle.seq_kernel.proofs.KeptSteps.{steps_keep_bounds}
use Rattle.seq_kernel.proofs.laws.steps_keep_bounds.Goals as goal

pub returns-clause-steps : goal.returns-clause-steps
returns-clause-steps c = steps_keep_bounds

pub returns-clause-strikes : goal.returns-clause-strikes
returns-clause-strikes c = strikes_keep_bounds
