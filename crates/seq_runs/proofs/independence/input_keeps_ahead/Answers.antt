use Rattle.seq_runs.proofs.Ahead.{input_keeps_ahead}
use Rattle.seq_runs.proofs.independence.input_keeps_ahead.Goals as goal

pub returns : goal.returns
returns c = input_keeps_ahead
