use Rattle.seq_flat.proofs.ReachedStart.{start_is_reached}
use Rattle.seq_flat.proofs.ReachedStates.{steps_stay_reached, runs_stay_reached}
use Rattle.seq_flat.proofs.laws.reached_states.Goals as goal

pub returns-clause-start : goal.returns-clause-start
returns-clause-start c = start_is_reached

pub returns-clause-steps : goal.returns-clause-steps
returns-clause-steps c = steps_stay_reached

pub returns-clause-runs : goal.returns-clause-runs
returns-clause-runs c = runs_stay_reached
