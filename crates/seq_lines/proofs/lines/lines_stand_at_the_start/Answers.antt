use Rattle.seq_lines.proofs.Gives.{start_stands}
use Rattle.seq_lines.proofs.lines.lines_stand_at_the_start.Goals as goal

pub returns : goal.returns
returns c = start_stands
