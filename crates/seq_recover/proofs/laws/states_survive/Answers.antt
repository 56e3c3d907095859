use Rattle.seq_recover.proofs.Elsewhere.{copying_survives, locks_survives, closing_survives, recovered_survives}
use Rattle.seq_recover.proofs.laws.states_survive.Goals as goal

pub returns-clause-copying : goal.returns-clause-copying
returns-clause-copying c = copying_survives

pub returns-clause-locks : goal.returns-clause-locks
returns-clause-locks c = locks_survives

pub returns-clause-closing : goal.returns-clause-closing
returns-clause-closing c = closing_survives

pub returns-clause-recovered : goal.returns-clause-recovered
returns-clause-recovered c = recovered_survives
