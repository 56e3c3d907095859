use Rattle.seq_kernel.proofs.Owners.{steps_change_bytes_or_owner}
use Rattle.seq_kernel.proofs.laws.steps_change_bytes_or_owner.Goals as goal

pub returns : goal.returns
returns c = steps_change_bytes_or_owner
