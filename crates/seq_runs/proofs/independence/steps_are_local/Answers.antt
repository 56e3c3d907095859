use Rattle.seq_runs.proofs.Local.{steps_are_local}
use Rattle.seq_runs.proofs.independence.steps_are_local.Goals as goal

pub returns : goal.returns
returns c = steps_are_local
