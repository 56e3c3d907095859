use Rattle.seq_stands.proofs.Law.{runs_keep}
use Rattle.seq_stands.proofs.words.runs_keep_what_stands.Goals as goal

pub returns : goal.returns
returns c = runs_keep
