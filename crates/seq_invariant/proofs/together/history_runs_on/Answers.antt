use Rattle.seq_invariant.proofs.JoinedKept.{history_runs_on}
use Rattle.seq_invariant.proofs.together.history_runs_on.Goals as goal

pub returns : goal.returns
returns c = history_runs_on
