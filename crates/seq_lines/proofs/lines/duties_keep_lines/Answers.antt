use Rattle.seq_lines.proofs.Duties.{duties_keep_lines}
use Rattle.seq_lines.proofs.lines.duties_keep_lines.Goals as goal

pub returns : goal.returns
returns c = duties_keep_lines
