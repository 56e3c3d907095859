use Rattle.seq_lines.proofs.Settles.{calm_is_steady}
use Rattle.seq_lines.proofs.settled.calm_is_steady.Goals as goal

pub returns : goal.returns
returns c = calm_is_steady
