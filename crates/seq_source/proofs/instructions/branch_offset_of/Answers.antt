use Rattle.seq_source.proofs.Ranges.{branch_bits}
use Rattle.seq_source.proofs.instructions.branch_offset_of.Goals as goal

pub returns-clause-value : goal.returns-clause-value
returns-clause-value c = branch_bits c.args.number c.branch_offset.result c.ranges.number c.branch_offset.ensures
