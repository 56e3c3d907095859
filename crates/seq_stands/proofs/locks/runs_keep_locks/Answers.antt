use Rattle.seq_stands.proofs.LockLaw.{runs_keep_locks}
use Rattle.seq_stands.proofs.locks.runs_keep_locks.Goals as goal

pub returns : goal.returns
returns c = runs_keep_locks
