use Rattle.seq_invariant.proofs.BlockRest.{start_holds, free_areas_hold}
use Rattle.seq_invariant.proofs.blocks.free_areas_hold.Goals as goal

pub returns-clause-start : goal.returns-clause-start
returns-clause-start c = start_holds

pub returns-clause-free : goal.returns-clause-free
returns-clause-free c = free_areas_hold
