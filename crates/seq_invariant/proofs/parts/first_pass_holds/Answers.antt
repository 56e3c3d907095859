use Rattle.seq_invariant.proofs.PartsFlushes.{first_pass_holds}
use Rattle.seq_invariant.proofs.parts.first_pass_holds.Goals as goal

pub returns : goal.returns
returns c = first_pass_holds
