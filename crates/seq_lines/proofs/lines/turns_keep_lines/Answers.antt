use Rattle.seq_lines.proofs.Turns.{turns_keep_lines}
use Rattle.seq_lines.proofs.lines.turns_keep_lines.Goals as goal

pub returns : goal.returns
returns c = turns_keep_lines
