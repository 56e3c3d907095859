use Rattle.seq_invariant.proofs.PartsTogether.{runs_show}
use Rattle.seq_invariant.proofs.parts.runs_show.Goals as goal

pub returns : goal.returns
returns c = runs_show
