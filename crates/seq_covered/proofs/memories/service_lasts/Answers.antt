use Rattle.seq_covered.proofs.Becomes.{service_lasts}
use Rattle.seq_covered.proofs.memories.service_lasts.Goals as goal

pub returns : goal.returns
returns c = service_lasts
