use Rattle.seq_invariant.proofs.BlockTurns.{contexts_are_committed, claims_keep}
use Rattle.seq_invariant.proofs.BlockOwners.{contexts_own}
use Rattle.seq_invariant.proofs.blocks.claims_keep.Goals as goal

pub returns-clause-contexts : goal.returns-clause-contexts
returns-clause-contexts c = contexts_are_committed

pub returns-clause-owners : goal.returns-clause-owners
returns-clause-owners c = contexts_own

pub returns-clause-turns : goal.returns-clause-turns
returns-clause-turns c = claims_keep
