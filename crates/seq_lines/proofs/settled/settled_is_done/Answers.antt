use Rattle.seq_lines.proofs.Settles.{settled_is_done}
use Rattle.seq_lines.proofs.settled.settled_is_done.Goals as goal

pub returns : goal.returns
returns c = settled_is_done
