use Rattle.seq_source.proofs.Ranges.{jump_bits}
use Rattle.seq_source.proofs.instructions.jump_offset_of.Goals as goal

pub returns-clause-value : goal.returns-clause-value
returns-clause-value c = jump_bits c.args.number c.jump_offset.result c.ranges.number c.jump_offset.ensures
