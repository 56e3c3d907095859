use Rattle.seq_source.proofs.Ranges.{immediate_bits}
use Rattle.seq_source.proofs.instructions.immediate_of.Goals as goal

pub returns-clause-value : goal.returns-clause-value
returns-clause-value c = immediate_bits c.args.number c.immediate.result c.ranges.number c.immediate.ensures
