use Rattle.std.proofs.Common.{◌∙◌}
use Rattle.seq_layout.specs.Copies.{copies, block_written}
use Rattle.seq_recover.proofs.copying.copy_over.Goals as goal

pub returns-clause-copies : goal.returns-clause-copies
returns-clause-copies c =
    let p = copies c.args.layout.now c.args.memories.now in
    c.write_block.ensures.written ∙
    (λ i. block_written (c.requires.layout i) p c.args.extent.0 c.args.n c.args.to (c.held_block-block.ensures i))
