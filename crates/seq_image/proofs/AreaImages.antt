-- The image in an area depends on the area alone.
use Rattle.std.proofs.Common.{◌≡◌, ℕ, ◌+◌, ◌-◌, ◌*◌, ◌/◌, ◌%◌, ◌<◌, Bool, true, Option, Some, None, length, get_or, refl, sym, ◌∙◌, ap, subst, inl, inr}
use Rattle.std.specs.Prelude.{count_ones}
use Rattle.std.proofs.lemmas.Bool.{cases_Bool, cases_lt}
use Rattle.seq_words.specs.Blocks.{zero_block}
use Rattle.seq_words.specs.declared.description.MachineDesc.{MachineDesc}
use Rattle.seq_words.specs.Description.{process_of}
use Rattle.seq_flat.specs.declared.state.FlatState.{FlatState}
use Rattle.seq_flat.specs.declared.state.ProcessState.{ProcessState}
use Rattle.seq_flat.specs.declared.state.SegmentState.{SegmentState}
use Rattle.seq_flat.specs.declared.state.LineState.{LineState}
use Rattle.seq_flat.specs.Memory.{is_owner}
use Rattle.seq_layout.specs.Places.{is_place}
use Rattle.seq_layout.specs.Shapes.{shape_of}
use Rattle.seq_layout.specs.Contexts.{context_blocks}
use Rattle.seq_layout.specs.declared.context.Context.{Context}
use Rattle.seq_image.specs.Images.{block_of_bytes, block_of_outbox, own_line, own_line_below, line_if, held_among, context_of, process_block, image}
use Rattle.seq_image.specs.Areas.{AreAlike, in_area, owned_by, AgreeOn, ImageIsOfTheArea}
use Rattle.seq_image.proofs.Areas.{area_cases}
use Rattle.seq_image.proofs.HeldMasks.{held_bit, one_mask}
use Rattle.seq_image.proofs.ImageBlocks.{image_nowhere, image_process, image_segment, context_block, outbox_is, private_is}
use Rattle.seq_image.proofs.OwnLines.{found_is_own}

module _ (d : MachineDesc) (q : ℕ) (segments : ℕ → Bool) (f g : FlatState) (commits commits' : ℕ → ℕ) (there : q < length d.processes) (agree : AgreeOn d q segments f g) (counts : commits q ≡ commits' q) where
  same_line : (i : ℕ) → own_line d f q i ≡ own_line d g q i
  unfolding own_line
  same_line i = go (own_line_below (process_of d q).lines i 16) refl
    where
      go : (l : Option ℕ) → own_line_below (process_of d q).lines i 16 ≡ l → line_if f l ≡ line_if g l
      go (Some l) found = agree.line l (found_is_own (process_of d q).lines i 16 l found)
      go None found = refl

  same_owner : (t : ℕ) → owned_by f q t ≡ owned_by g q t
  same_owner t = elim (cases_Bool (segments t)) [
    | inl inside ↦ ap (λ (s : SegmentState). is_owner q s.owner) (agree.segment t inside)
    | inr outside ↦ agree.other t outside
  ]

  same_held : held_among q f.segments ≡ held_among q g.segments
  same_held = one_mask _ _ (λ t. held_bit q f.segments t ∙ same_owner t ∙ sym (held_bit q g.segments t))

  same_context : context_of d f q (commits q) ≡ context_of d g q (commits' q)
  same_context = rw (agree.process, same_held, counts, same_line 0, same_line 1, same_line 2, same_line 3) refl

  same_block : (n : ℕ) → process_block d f q (commits q) n ≡ process_block d g q (commits' q) n
  same_block n = elim (cases_lt n 8) [
    | inl lt ↦
        context_block d f q (commits q) n lt
        ∙ ap (λ (c : Context). get_or (context_blocks c) n zero_block) same_context
        ∙ sym (context_block d g q (commits' q) n lt)
    | inr past ↦ elim (cases_lt n (8 + 8 * count_ones (process_of d q).lines)) [
      | inl lt ↦
          outbox_is d f q (commits q) n past lt
          ∙ ap (λ (x : LineState). block_of_outbox x.output (n % 8)) (same_line (n / 8 - 1))
          ∙ sym (outbox_is d g q (commits' q) n past lt)
      | inr beyond ↦
          private_is d f q (commits q) n beyond
          ∙ ap (λ (x : ProcessState). block_of_bytes x.bytes (n - (8 + 8 * count_ones (process_of d q).lines))) agree.process
          ∙ sym (private_is d g q (commits' q) n beyond)
    ]
  ]

  same_process : (n : ℕ) → image d f commits q n ≡ image d g commits' q n
  same_process n = elim (cases_Bool (is_place (shape_of d).blocks q n)) [
    | inl placed ↦ image_process d f commits q n there placed ∙ same_block n ∙ sym (image_process d g commits' q n there placed)
    | inr out ↦ image_nowhere d f commits q n out ∙ sym (image_nowhere d g commits' q n out)
  ]

  same_segment : (t n : ℕ) → t < length d.segments → segments t ≡ true → image d f commits (length d.processes + t) n ≡ image d g commits' (length d.processes + t) n
  same_segment t n lt inside = elim (cases_Bool (is_place (shape_of d).blocks (length d.processes + t) n)) [
    | inl placed ↦
        image_segment d f commits t n lt placed
        ∙ ap (λ (s : SegmentState). block_of_bytes s.bytes n) (agree.segment t inside)
        ∙ sym (image_segment d g commits' t n lt placed)
    | inr out ↦ image_nowhere d f commits (length d.processes + t) n out ∙ sym (image_nowhere d g commits' (length d.processes + t) n out)
  ]

  alike : AreAlike (in_area d q segments) (image d f commits) (image d g commits')
  alike = record {
    each = λ e n inside. elim (area_cases d q segments e inside) [
      | inl own ↦ subst (λ m. image d f commits m n ≡ image d g commits' m n) (sym own) (same_process n)
      | inr (t, lt, is, extent) ↦ subst (λ m. image d f commits m n ≡ image d g commits' m n) (sym extent) (same_segment t n lt is)
    ];
  }

pub image_is_of_the_area : ImageIsOfTheArea
image_is_of_the_area d q segments f g commits commits' there agree counts = alike d q segments f g commits commits' there agree counts
