use Rattle.seq_runs.proofs.Ahead.{starts_ahead}
use Rattle.seq_runs.proofs.independence.starts_ahead.Goals as goal

pub returns : goal.returns
returns c = starts_ahead
