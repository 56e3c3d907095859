use Rattle.seq_invariant.proofs.BlockStays.{hands_stay}
use Rattle.seq_invariant.proofs.BlockTurns.{hands_stay_at_commits, commits_stay_inside}
use Rattle.seq_invariant.proofs.blocks.hands_stay.Goals as goal

pub returns-clause-stay : goal.returns-clause-stay
returns-clause-stay c = hands_stay

pub returns-clause-commits : goal.returns-clause-commits
returns-clause-commits c = hands_stay_at_commits

pub returns-clause-inside : goal.returns-clause-inside
returns-clause-inside c = commits_stay_inside
