use Rattle.std.proofs.Common.{arith, ◌/◌}
use Rattle.std.proofs.lemmas.Grind.{common_steps}
use Rattle.std.proofs.lemmas.List.Sums.{sum_by_more_le}
use Rattle.seq_words.specs.declared.description.SegmentDesc.{SegmentDesc}
use Rattle.seq_schedule.proofs.BlockSums.{blocks_are, few_blocks}
use Rattle.seq_schedule.proofs.needed.segment_blocks.Goals as goal

pub overflow_add-blocks : goal.overflow_add-blocks
overflow_add-blocks c =
    let few = few_blocks c.args.desc.now c.requires in
    let all = blocks_are c.args.desc.now in
    let lines = c.requires.few_lines in
    let more = sum_by_more_le (λ (s : SegmentDesc). s.size / 32) c.args.desc.now.segments c.loop-segment.segment-index in
    grind (arith, common_steps, few, all, lines, more)
