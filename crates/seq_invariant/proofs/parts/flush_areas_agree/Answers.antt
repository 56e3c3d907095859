use Rattle.seq_invariant.proofs.PartsFlushAreas.{flush_areas_agree}
use Rattle.seq_invariant.proofs.parts.flush_areas_agree.Goals as goal

pub returns : goal.returns
returns c = flush_areas_agree
