use Rattle.seq_invariant.proofs.BlockFrame.{moves_keep_blocks}
use Rattle.seq_invariant.proofs.BlockInside.{flushes_write_inside, extents_rest}
use Rattle.seq_invariant.proofs.blocks.moves_keep_blocks.Goals as goal

pub returns-clause-moves : goal.returns-clause-moves
returns-clause-moves c = moves_keep_blocks

pub returns-clause-flushes : goal.returns-clause-flushes
returns-clause-flushes c = flushes_write_inside

pub returns-clause-rest : goal.returns-clause-rest
returns-clause-rest c = extents_rest
