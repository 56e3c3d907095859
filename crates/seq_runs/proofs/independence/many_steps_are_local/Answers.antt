use Rattle.seq_runs.proofs.Ahead.{many_steps_are_local}
use Rattle.seq_runs.proofs.independence.many_steps_are_local.Goals as goal

pub returns : goal.returns
returns c = many_steps_are_local
