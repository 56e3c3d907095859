use Rattle.seq_source.proofs.Ranges.{below_bits}
use Rattle.seq_source.proofs.instructions.upper_of.Goals as goal

pub returns-clause-value : goal.returns-clause-value
returns-clause-value c = below_bits 1048576 c.args.number c.upper.result c.ranges.number c.upper.ensures
