use Rattle.seq_manifest.proofs.Answers.{is_read, is_refused}
use Rattle.seq_manifest.proofs.reading.read.Goals as goal

pub returns-clause-read : goal.returns-clause-read
returns-clause-read c = λ d h. is_read c.args.text.now c.read_lines.result d c.read_lines.ensures.value c.read_lines.ensures.refused h

pub returns-clause-faulty : goal.returns-clause-faulty
returns-clause-faulty c = λ place rule e. is_refused c.args.text.now c.read_lines.result place rule c.read_lines.ensures.none c.read_lines.ensures.refused e
