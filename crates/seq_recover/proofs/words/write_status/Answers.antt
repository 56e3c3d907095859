use Rattle.std.proofs.Common.{◌∙◌}
use Rattle.seq_layout.specs.Copies.{copies, word_written}
use Rattle.seq_recover.proofs.words.write_status.Goals as goal

pub returns-clause-copies : goal.returns-clause-copies
returns-clause-copies c =
    let p = copies c.args.layout.now c.args.memories.now in
    c.write_word.ensures.written ∙
    (λ i. word_written (c.requires.layout i) p (c.process.ensures i) 0 c.args.shadow (c.to_word.ensures.word i))
