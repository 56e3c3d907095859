use Rattle.seq_lines.proofs.Gives.{shown_is_committed}
use Rattle.seq_lines.proofs.lines.shown_is_committed.Goals as goal

pub returns : goal.returns
returns c = shown_is_committed
