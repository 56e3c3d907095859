use Rattle.seq_lines.proofs.Holders.{runs_have_holders}
use Rattle.seq_lines.proofs.settled.runs_have_holders.Goals as goal

pub returns : goal.returns
returns c = runs_have_holders
