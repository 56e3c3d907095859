use Rattle.seq_invariant.proofs.BlockLines.{flushes_are_to_commit}
use Rattle.seq_invariant.proofs.together.flushes_are_to_commit.Goals as goal

pub returns : goal.returns
returns c = flushes_are_to_commit
