use Rattle.std.proofs.Common.{◌/◌, ◌∙◌}
use Rattle.seq_layout.specs.Shapes.{shape_of, segment_extent}
use Rattle.seq_layout.specs.Copies.{copies, word_written}
use Rattle.seq_recover.specs.Reading.{is_shadow}
use Rattle.seq_recover.proofs.Cleared.{written_is}
use Rattle.seq_recover.proofs.locks.clear.Goals as goal

pub returns-clause-copies : goal.returns-clause-copies
returns-clause-copies c =
    let d = c.args.desc.now in
    let k = c.args.k in
    let p = copies c.args.layout.now c.args.memories.now in
    c.write_word.ensures.written ∙
    (λ i. word_written c.args.layout.now p (c.lock_word-at.ensures i).extent.0 (c.lock_word-at.ensures i).word (is_shadow k) 0) ∙
    (λ i. word_written (c.requires.layout i) p (segment_extent (c.requires.layout i) (k / 2)) 0 (is_shadow k) 0) ∙
    written_is (shape_of d) p (segment_extent (shape_of d) (k / 2)) 0 (is_shadow k) 0 c.requires.serves
