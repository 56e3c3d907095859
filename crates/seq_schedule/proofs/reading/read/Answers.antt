use Rattle.seq_schedule.proofs.Answers.{is_read, is_refused}
use Rattle.seq_schedule.proofs.reading.read.Goals as goal

pub returns-clause-faultless : goal.returns-clause-faultless
returns-clause-faultless c = λ none. is_read c.read_lines.result _ _ c.read_lines.ensures.items c.read_lines.ensures.refused none

pub returns-clause-faulty : goal.returns-clause-faulty
returns-clause-faulty c = λ place rule some. is_refused c.read_lines.result _ place rule c.read_lines.ensures.none c.read_lines.ensures.refused some
