use Rattle.seq_invariant.proofs.JoinedAfter.{inside_stands_on}
use Rattle.seq_invariant.proofs.together.inside_stands_on.Goals as goal

pub returns : goal.returns
returns c = inside_stands_on
