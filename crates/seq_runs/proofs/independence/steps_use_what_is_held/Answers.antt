use Rattle.seq_runs.proofs.Local.{steps_use_what_is_held}
use Rattle.seq_runs.proofs.independence.steps_use_what_is_held.Goals as goal

pub returns : goal.returns
returns c = steps_use_what_is_held
