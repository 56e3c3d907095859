use Rattle.std.proofs.Common.{arith}
use Rattle.std.specs.Prelude.{count_ones}
use Rattle.std.proofs.lemmas.Grind.{common_steps}
use Rattle.std.proofs.lemmas.List.Sums.{sum_by_more_le}
use Rattle.seq_words.specs.declared.description.ProcessDesc.{ProcessDesc}
use Rattle.seq_schedule.proofs.BlockSums.{blocks_are, few_blocks}
use Rattle.seq_schedule.proofs.needed.line_count.Goals as goal

pub overflow_add-lines : goal.overflow_add-lines
overflow_add-lines c =
    let few = few_blocks c.args.desc.now c.requires in
    let all = blocks_are c.args.desc.now in
    let lines = c.requires.few_lines in
    let more = sum_by_more_le (λ (p : ProcessDesc). count_ones p.lines) c.args.desc.now.processes c.loop-process.process-index in
    grind (arith, common_steps, few, all, lines, more)
