use Rattle.seq_lines.proofs.OffLines.{turns_are_off_lines}
use Rattle.seq_lines.proofs.lines.turns_are_off_lines.Goals as goal

pub returns : goal.returns
returns c = turns_are_off_lines
