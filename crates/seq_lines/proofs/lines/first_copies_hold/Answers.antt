use Rattle.seq_lines.proofs.Gives.{first_copies_hold}
use Rattle.seq_lines.proofs.lines.first_copies_hold.Goals as goal

pub returns : goal.returns
returns c = first_copies_hold
