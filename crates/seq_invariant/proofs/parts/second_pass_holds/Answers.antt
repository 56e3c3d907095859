use Rattle.seq_invariant.proofs.PartsFlushes.{second_pass_holds}
use Rattle.seq_invariant.proofs.parts.second_pass_holds.Goals as goal

pub returns : goal.returns
returns c = second_pass_holds
