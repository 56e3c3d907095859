use Rattle.seq_image.proofs.StaysAhead.{taken_up_runs_ahead, start_runs_ahead}
use Rattle.seq_image.proofs.ahead.taken_up_runs_ahead.Goals as goal

pub returns-clause-image : goal.returns-clause-image
returns-clause-image c = taken_up_runs_ahead

pub returns-clause-start : goal.returns-clause-start
returns-clause-start c = start_runs_ahead
