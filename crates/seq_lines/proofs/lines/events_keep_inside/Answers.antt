use Rattle.seq_lines.proofs.OffLines.{events_keep_inside}
use Rattle.seq_lines.proofs.lines.events_keep_inside.Goals as goal

pub returns : goal.returns
returns c = events_keep_inside
