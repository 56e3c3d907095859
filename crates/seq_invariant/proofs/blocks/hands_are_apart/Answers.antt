use Rattle.seq_invariant.proofs.BlockApart.{hands_are_apart, flushes_commit_alone}
use Rattle.seq_invariant.proofs.blocks.hands_are_apart.Goals as goal

pub returns-clause-hands : goal.returns-clause-hands
returns-clause-hands c = hands_are_apart

pub returns-clause-commits : goal.returns-clause-commits
returns-clause-commits c = flushes_commit_alone
