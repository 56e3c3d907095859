use Rattle.seq_stands.proofs.LockLaw.{events_keep_locks}
use Rattle.seq_stands.proofs.locks.events_keep_locks.Goals as goal

pub returns : goal.returns
returns c = events_keep_locks
