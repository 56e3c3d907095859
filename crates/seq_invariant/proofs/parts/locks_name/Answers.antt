use Rattle.seq_invariant.proofs.PartsLocks.{locks_name}
use Rattle.seq_invariant.proofs.parts.locks_name.Goals as goal

pub returns : goal.returns
returns c = locks_name
