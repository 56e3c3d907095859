use Rattle.seq_lines.proofs.Gives.{sent_is_right}
use Rattle.seq_lines.proofs.lines.sent_is_right.Goals as goal

pub returns : goal.returns
returns c = sent_is_right
