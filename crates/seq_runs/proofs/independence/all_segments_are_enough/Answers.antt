use Rattle.seq_runs.proofs.Ahead.{all_segments_are_enough}
use Rattle.seq_runs.proofs.independence.all_segments_are_enough.Goals as goal

pub returns : goal.returns
returns c = all_segments_are_enough
