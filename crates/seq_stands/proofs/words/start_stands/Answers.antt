use Rattle.seq_stands.proofs.AtStart.{start_stands}
use Rattle.seq_stands.proofs.words.start_stands.Goals as goal

pub returns : goal.returns
returns c = start_stands
