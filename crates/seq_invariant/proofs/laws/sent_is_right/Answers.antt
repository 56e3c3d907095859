use Rattle.seq_invariant.proofs.Gives.{sent_is_right, sent_is_right_then, runs_send_right}
use Rattle.seq_invariant.proofs.laws.sent_is_right.Goals as goal

pub returns-clause-now : goal.returns-clause-now
returns-clause-now c = sent_is_right

pub returns-clause-on : goal.returns-clause-on
returns-clause-on c = sent_is_right_then

pub returns-clause-runs : goal.returns-clause-runs
returns-clause-runs c = runs_send_right
