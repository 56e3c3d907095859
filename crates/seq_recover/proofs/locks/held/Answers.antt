use Rattle.std.proofs.Common.{sym, ◌∙◌}
use Rattle.seq_words.specs.Blocks.{word_at}
use Rattle.seq_layout.specs.Copies.{copies, first_block}
use Rattle.seq_recover.proofs.HeldBits.{held_is, held_place}
use Rattle.seq_recover.proofs.locks.held.Goals as goal

pub first_block-block-requires-clause-place : goal.first_block-block-requires-clause-place
first_block-block-requires-clause-place c = held_place c.args.desc.now c.args.layout.now c.args.pid.0 c.process.result.0 c.requires.layout c.requires.process c.process.ensures

pub returns : goal.returns
returns c =
    let p = copies c.args.layout.now c.args.memories.now in
    c.block_word.ensures.number ∙
    (λ i. word_at (c.first_block-block.ensures.block i).bytes 16) ∙
    (λ i. word_at (first_block (c.requires.layout i) p (c.process.ensures i) 4).bytes 16) ∙
    sym (held_is c.args.desc.now p c.args.pid.0)
