use Rattle.seq_stands.proofs.LockLaw.{start_has_locks}
use Rattle.seq_stands.proofs.locks.start_has_locks.Goals as goal

pub returns : goal.returns
returns c = start_has_locks
