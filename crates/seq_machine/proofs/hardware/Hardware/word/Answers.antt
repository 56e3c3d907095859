use Rattle.std.proofs.Common.{◌≡◌, ◌%◌, ◌/◌, inr, refl, sym, ap, ◌∙◌, subst}
use Rattle.seq_words.specs.declared.block.Block.{Block}
use Rattle.seq_isa.specs.Meaning.{number_at}
use Rattle.seq_rv32.specs.Widths.{IsWidth}
use Rattle.seq_layout.specs.Shapes.{Shape}
use Rattle.seq_layout.specs.Places.{IsPlace}
use Rattle.seq_layout.specs.Copies.{first_block}
use Rattle.seq_kernel.proofs.ViewSeen.{in_block, place_seen, aligned_seen, number_seen}
use Rattle.seq_machine.specs.Settling.{held_copies, first_blocks}
use Rattle.seq_machine.proofs.hardware.Hardware.word.Goals as goal

word_wide : IsWidth 4
word_wide = inr (inr refl)

pub first_block-block-requires-clause-place : goal.first_block-block-requires-clause-place
first_block-block-requires-clause-place c =
    let h = c.args.self.now in
    subst (λ (s : Shape). IsPlace s.blocks c.in_ok-extent.extent.0 (c.in_ok-extent.byte / 32)) (sym c.requires.hardware.layout)
    (place_seen h.desc c.args.pid.0 c.args.owned c.requires.hardware.described c.requires.process c.args.at _ (sym c.in_ok-extent.ensures))

pub word_in-requires-clause-aligned : goal.word_in-requires-clause-aligned
word_in-requires-clause-aligned c =
    let h = c.args.self.now in
    aligned_seen h.desc c.args.pid.0 c.args.owned c.requires.hardware.described c.requires.process c.args.at 4 _ (sym c.in_ok-extent.ensures) word_wide c.requires.aligned

pub returns : goal.returns
returns c =
    let h = c.args.self.now in
    let block : c.first_block-block.result.now ≡ first_blocks h c.in_ok-extent.extent.0 (c.in_ok-extent.byte / 32) =
    c.first_block-block.ensures.block ∙ ap (λ (s : Shape). first_block s (held_copies h) c.in_ok-extent.extent.0 (c.in_ok-extent.byte / 32)) c.requires.hardware.layout in
    sym c.word_in.ensures
    ∙ ap (λ (b : Block). number_at (in_block b) (c.in_ok-extent.byte % 32) 4) block
    ∙ number_seen h.desc c.args.pid.0 c.args.owned c.requires.hardware.described c.requires.process (first_blocks h) c.args.at 4 _ (sym c.in_ok-extent.ensures) word_wide c.requires.aligned
