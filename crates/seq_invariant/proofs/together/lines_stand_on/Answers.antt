use Rattle.seq_invariant.proofs.JoinedKept.{lines_stand_on}
use Rattle.seq_invariant.proofs.together.lines_stand_on.Goals as goal

pub returns : goal.returns
returns c = lines_stand_on
