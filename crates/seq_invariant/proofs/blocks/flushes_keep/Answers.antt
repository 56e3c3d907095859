use Rattle.seq_invariant.proofs.BlockTurns.{flushes_keep, commits_keep}
use Rattle.seq_invariant.proofs.BlockInputs.{commits_are_written}
use Rattle.seq_invariant.proofs.blocks.flushes_keep.Goals as goal

pub returns-clause-turns : goal.returns-clause-turns
returns-clause-turns c = flushes_keep

pub returns-clause-commit : goal.returns-clause-commit
returns-clause-commit c = commits_keep

pub returns-clause-written : goal.returns-clause-written
returns-clause-written c = commits_are_written
