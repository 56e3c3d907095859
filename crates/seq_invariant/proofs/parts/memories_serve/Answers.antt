use Rattle.seq_invariant.proofs.PartsMemories.{memories_serve}
use Rattle.seq_invariant.proofs.parts.memories_serve.Goals as goal

pub returns : goal.returns
returns c = memories_serve
