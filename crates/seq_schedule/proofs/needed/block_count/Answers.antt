use Rattle.std.proofs.Common.{◌≡◌, ◌+◌, ◌*◌, ◌/◌, ◌∙◌, arith}
use Rattle.seq_schedule.proofs.BlockSums.{blocks_are, few_blocks}
use Rattle.seq_schedule.proofs.needed.block_count.Goals as goal

pub overflow_add-result : goal.overflow_add-result
overflow_add-result c = omega (arith, c.process_blocks.ensures, c.segment_blocks.ensures, blocks_are c.args.desc.now, few_blocks c.args.desc.now c.requires)

pub overflow_add-result-2 : goal.overflow_add-result-2
overflow_add-result-2 c = rw (c.process_blocks.ensures, c.segment_blocks.ensures, c.line_count.ensures) (omega (arith, blocks_are c.args.desc.now, few_blocks c.args.desc.now c.requires))

pub returns-clause-count : goal.returns-clause-count
returns-clause-count c = rw (c.process_blocks.ensures, c.segment_blocks.ensures, c.line_count.ensures) (blocks_are c.args.desc.now)

pub returns-clause-few : goal.returns-clause-few
returns-clause-few c = rw (c.process_blocks.ensures, c.segment_blocks.ensures, c.line_count.ensures) (omega (arith, blocks_are c.args.desc.now, few_blocks c.args.desc.now c.requires))
