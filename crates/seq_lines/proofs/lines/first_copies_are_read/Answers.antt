use Rattle.seq_lines.proofs.Duties.{first_copies_are_read}
use Rattle.seq_lines.proofs.lines.first_copies_are_read.Goals as goal

pub returns : goal.returns
returns c = first_copies_are_read
