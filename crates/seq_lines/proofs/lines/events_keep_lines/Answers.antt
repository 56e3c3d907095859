use Rattle.seq_lines.proofs.Law.{events_keep_lines}
use Rattle.seq_lines.proofs.lines.events_keep_lines.Goals as goal

pub returns : goal.returns
returns c = events_keep_lines
