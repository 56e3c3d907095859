use Rattle.seq_samples.proofs.Described.{three_memories-is}
use Rattle.seq_samples.proofs.three_memories.Goals as goal

pub returns-clause-described : goal.returns-clause-described
returns-clause-described c = rw (c.machine.ensures, c.in-Ok-vec.ensures.items, c.in-Ok.ensures.items, c.process.ensures, c.process-2.ensures, c.new.ensures, c.new-2.ensures, c.segment.ensures, c.segment-2.ensures) three_memories-is
