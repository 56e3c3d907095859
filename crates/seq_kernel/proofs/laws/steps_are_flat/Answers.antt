use Rattle.seq_kernel.proofs.RefineCallsTurns.{turns_are_flat}
use Rattle.seq_kernel.proofs.laws.steps_are_flat.Goals as goal

pub returns : goal.returns
returns c = turns_are_flat
