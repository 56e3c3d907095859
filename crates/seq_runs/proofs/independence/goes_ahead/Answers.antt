use Rattle.seq_runs.proofs.Ahead.{goes_ahead}
use Rattle.seq_runs.proofs.independence.goes_ahead.Goals as goal

pub returns : goal.returns
returns c = goes_ahead
