use Rattle.seq_invariant.proofs.Law.{runs_keep_all}
use Rattle.seq_invariant.proofs.Start.{runs_hold}
use Rattle.seq_invariant.proofs.laws.runs_hold.Goals as goal

pub returns-clause-on : goal.returns-clause-on
returns-clause-on c = runs_keep_all

pub returns-clause-start : goal.returns-clause-start
returns-clause-start c = runs_hold
