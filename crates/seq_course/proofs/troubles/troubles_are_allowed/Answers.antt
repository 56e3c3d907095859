use Rattle.seq_course.proofs.Agreeing.{events_agree, scripts_agree}
use Rattle.seq_course.proofs.AllowedTroubles.{troubles_allowed}
use Rattle.seq_course.proofs.troubles.troubles_are_allowed.Goals as goal

pub returns-clause-events : goal.returns-clause-events
returns-clause-events c = events_agree

pub returns-clause-scripts : goal.returns-clause-scripts
returns-clause-scripts c = scripts_agree

pub returns-clause-allowed : goal.returns-clause-allowed
returns-clause-allowed c = troubles_allowed
