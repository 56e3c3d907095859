use Rattle.seq_invariant.proofs.Gives.{committed_is_flat_run}
use Rattle.seq_invariant.proofs.laws.committed_is_flat_run.Goals as goal

pub returns : goal.returns
returns c = committed_is_flat_run
