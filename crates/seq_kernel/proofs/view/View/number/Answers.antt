use Rattle.std.proofs.Common.{sym, ap, ◌∙◌, ◌%◌}
use Rattle.seq_words.specs.declared.block.Block.{Block}
use Rattle.seq_isa.specs.Meaning.{number_at}
use Rattle.seq_layout.specs.Copies.{copies}
use Rattle.seq_kernel.specs.Views.{Blocks, read_by}
use Rattle.seq_kernel.proofs.ViewSeen.{in_block, place_seen, aligned_seen, number_seen}
use Rattle.seq_kernel.proofs.view.View.number.Goals as goal

pub block-block-requires : goal.block-block-requires
block-block-requires c =
    let v = c.args.self.now in
    place_seen v.desc.now v.pid.0 v.held v.ready.description v.ready.process c.args.at _ (sym c.in_ok-extent.ensures)

pub number_in-requires-clause-aligned : goal.number_in-requires-clause-aligned
number_in-requires-clause-aligned c =
    let v = c.args.self.now in
    aligned_seen v.desc.now v.pid.0 v.held v.ready.description v.ready.process c.args.at c.args.width _ (sym c.in_ok-extent.ensures) c.requires.width c.requires.aligned

pub returns-clause-value : goal.returns-clause-value
returns-clause-value c =
    let v = c.args.self.now in
    let o : Blocks = read_by v.desc.now (copies v.layout.now v.memories.now) v.cache.now in
    sym c.number_in.ensures.value
    ∙ ap (λ (b : Block). number_at (in_block b) (c.in_ok-extent.byte % 32) c.args.width) c.block-block.ensures
    ∙ number_seen v.desc.now v.pid.0 v.held v.ready.description v.ready.process o c.args.at c.args.width _ (sym c.in_ok-extent.ensures) c.requires.width c.requires.aligned
