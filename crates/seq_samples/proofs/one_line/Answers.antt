use Rattle.seq_samples.proofs.Described.{one_line-is}
use Rattle.seq_samples.proofs.one_line.Goals as goal

pub returns-clause-described : goal.returns-clause-described
returns-clause-described c = rw (c.machine.ensures, c.in-Ok-vec.ensures.items, c.in-Ok.ensures.items, c.process.ensures, c.new.ensures, c.segment.ensures, c.segment-2.ensures, c.segment-3.ensures) one_line-is
