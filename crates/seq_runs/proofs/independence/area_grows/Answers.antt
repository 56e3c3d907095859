use Rattle.seq_runs.proofs.Ahead.{area_grows}
use Rattle.seq_runs.proofs.independence.area_grows.Goals as goal

pub returns : goal.returns
returns c = area_grows
