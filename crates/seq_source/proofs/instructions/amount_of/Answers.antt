use Rattle.seq_source.proofs.Ranges.{below_bits}
use Rattle.seq_source.proofs.instructions.amount_of.Goals as goal

pub returns-clause-value : goal.returns-clause-value
returns-clause-value c = below_bits 32 c.args.number c.amount.result c.ranges.number c.amount.ensures
