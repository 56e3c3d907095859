use Rattle.std.proofs.Common.{arith}
use Rattle.std.proofs.lemmas.Grind.{common_steps}
use Rattle.std.proofs.lemmas.List.Sums.{sum_by_more_le}
use Rattle.seq_layout.specs.Shapes.{process_blocks}
use Rattle.seq_schedule.proofs.BlockSums.{blocks_are, few_blocks}
use Rattle.seq_schedule.proofs.needed.process_blocks.Goals as goal

pub overflow_add-blocks-in-loop-process : goal.overflow_add-blocks-in-loop-process
overflow_add-blocks-in-loop-process c =
    let few = few_blocks c.args.desc.now c.requires in
    let all = blocks_are c.args.desc.now in
    let lines = c.requires.few_lines in
    let more = sum_by_more_le process_blocks c.args.desc.now.processes c.loop-process.process-index in
    grind (arith, common_steps, few, all, lines, more)

pub overflow_add-blocks-in-loop-process-2 : goal.overflow_add-blocks-in-loop-process-2
overflow_add-blocks-in-loop-process-2 c =
    let few = few_blocks c.args.desc.now c.requires in
    let all = blocks_are c.args.desc.now in
    let lines = c.requires.few_lines in
    let more = sum_by_more_le process_blocks c.args.desc.now.processes c.loop-process.process-index in
    grind (arith, common_steps, few, all, lines, more)
