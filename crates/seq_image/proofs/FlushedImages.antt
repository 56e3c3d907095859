-- The units of a flush make the image of the state that the process shows.
use Rattle.std.proofs.Common.{◌≡◌, ℕ, ◌+◌, ◌<◌, ◌≤◌, Bool, true, false, length, get_or, Option, None, unwrap_or, inl, inr, arith, sym, ◌∙◌, ap, subst}
use Rattle.std.proofs.lemmas.Bool.{cases_Bool, cases_lt, false≢true}
use Rattle.seq_words.specs.Blocks.{zero_block}
use Rattle.seq_words.specs.Description.{IsDescription}
use Rattle.seq_words.specs.declared.block.Block.{Block}
use Rattle.seq_words.specs.declared.description.MachineDesc.{MachineDesc}
use Rattle.seq_flat.specs.declared.state.FlatState.{FlatState}
use Rattle.seq_layout.specs.Places.{IsPlace, is_place}
use Rattle.seq_layout.specs.Shapes.{shape_of}
use Rattle.seq_layout.specs.Contexts.{context_blocks}
use Rattle.seq_layout.specs.declared.context.Context.{Context}
use Rattle.seq_layout.proofs.Sizes.{process_has_context}
use Rattle.seq_process.specs.declared.running.Running.{Running}
use Rattle.seq_process.specs.Contexts.{saved}
use Rattle.seq_cache.specs.Changes.{Changes, changed}
use Rattle.seq_cache.specs.Overlay.{overlay}
use Rattle.seq_kernel.specs.Views.{Blocks}
use Rattle.seq_image.specs.Images.{image}
use Rattle.seq_image.specs.Areas.{AreAlike, in_area}
use Rattle.seq_image.specs.Flushing.{IsInside, with_units, flushed, MayFlush, FlushMakesImage, ReadsOverFirst}
use Rattle.seq_image.proofs.Areas.{area_cases, process_in_area, segment_in_area}
use Rattle.seq_image.proofs.ImageBlocks.{place_test, place_of_test, image_nowhere, image_process, image_segment, context_block}
use Rattle.seq_image.proofs.ShownBlocks.{shown_block, segment_held}
use Rattle.seq_image.proofs.ShownContexts.{saved_is}
use Rattle.seq_image.proofs.Units.{changed_none, units_in_context, units_elsewhere}

pub reads_over_first : ReadsOverFirst
unfolding overlay
reads_over_first d p c area o first = record { each = λ e n inside. ap (unwrap_or (changed c.changes e n)) (first.each e n inside) }

module _ (d : MachineDesc) (f g : FlatState) (commits commits' : ℕ → ℕ) (segments : ℕ → Bool) (o : Blocks) (r : Running) (c : Changes)
    (described : IsDescription d) (may : MayFlush d g segments o r c) (agree : r.pair.a ≡ r.pair.b) (one_more : commits' r.pid.0 ≡ r.commits + 1)
    (read : AreAlike (in_area d r.pid.0 segments) o (with_units c.changes (image d f commits))) where
  -- none of the changes is of a block that isn't there, or of the context
  nowhere : (e n : ℕ) → is_place (shape_of d).blocks e n ≡ false → changed c.changes e n ≡ None
  nowhere e n out = changed_none (IsInside d r.pid.0 segments) c.changes e n may.inside (λ u is extent place.
      let there : IsPlace (shape_of d).blocks e n = subst (λ m. IsPlace (shape_of d).blocks e m) place (subst (λ m. IsPlace (shape_of d).blocks m u.place) extent is.place) in
      false≢true (sym out ∙ place_test (shape_of d).blocks e n there))

  not_context : (n : ℕ) → n < 8 → changed c.changes r.pid.0 n ≡ None
  not_context n lt = changed_none (IsInside d r.pid.0 segments) c.changes r.pid.0 n may.inside (λ u is extent place. let from = is.beside extent in omega arith)

  -- a block that isn't there
  none_there : (e n : ℕ) → (e ≡ r.pid.0 → 8 ≤ n) → is_place (shape_of d).blocks e n ≡ false → with_units (flushed r c) (image d f commits) e n ≡ image d g commits' e n
  none_there e n beside out =
      ap (λ (x : Option Block). unwrap_or x (image d f commits e n)) (units_elsewhere r.pid.0 (context_blocks (saved r r.pair.a)) c.changes e n beside ∙ nowhere e n out)
      ∙ image_nowhere d f commits e n out ∙ sym (image_nowhere d g commits' e n out)

  -- a block beside the context
  beside_is : (e n : ℕ) → (e ≡ r.pid.0 → 8 ≤ n) → in_area d r.pid.0 segments e ≡ true → with_units (flushed r c) (image d f commits) e n ≡ o e n
  beside_is e n beside inside =
      ap (λ (x : Option Block). unwrap_or x (image d f commits e n)) (units_elsewhere r.pid.0 (context_blocks (saved r r.pair.a)) c.changes e n beside)
      ∙ sym (read.each e n inside)

  context_there : (n : ℕ) → n < 8 → is_place (shape_of d).blocks r.pid.0 n ≡ true
  context_there n lt = place_test (shape_of d).blocks r.pid.0 n (process_has_context d r.pid.0 n may.within.process lt)

  past_context : (n : ℕ) → is_place (shape_of d).blocks r.pid.0 n ≡ false → 8 ≤ n
  past_context n out = elim (cases_lt n 8) [
    | inl lt ↦ absurd (false≢true (sym out ∙ context_there n lt))
    | inr past ↦ past
  ]

  -- a block of the context
  context_is : (n : ℕ) → n < 8 → with_units (flushed r c) (image d f commits) r.pid.0 n ≡ image d g commits' r.pid.0 n
  context_is n lt =
      ap (λ (x : Option Block). unwrap_or x (image d f commits r.pid.0 n)) (units_in_context r.pid.0 (context_blocks (saved r r.pair.a)) c.changes n lt (not_context n lt))
      ∙ ap (λ (x : Context). get_or (context_blocks x) n zero_block) (saved_is d g o r described may.within may.unused may.flat may.shows (commits' r.pid.0) agree one_more)
      ∙ sym (context_block d g r.pid.0 (commits' r.pid.0) n lt)
      ∙ sym (image_process d g commits' r.pid.0 n may.within.process (context_there n lt))

  process_is : (n : ℕ) → with_units (flushed r c) (image d f commits) r.pid.0 n ≡ image d g commits' r.pid.0 n
  process_is n = elim (cases_Bool (is_place (shape_of d).blocks r.pid.0 n)) [
    | inl there ↦ elim (cases_lt n 8) [
      | inl lt ↦ context_is n lt
      | inr past ↦
          beside_is r.pid.0 n (λ _. past) (process_in_area d r.pid.0 segments)
          ∙ shown_block d g o r described may.within may.flat may.shows (commits' r.pid.0) n (place_of_test (shape_of d).blocks r.pid.0 n there) past
          ∙ sym (image_process d g commits' r.pid.0 n may.within.process there)
    ]
    | inr out ↦ none_there r.pid.0 n (λ _. past_context n out) out
  ]

  segment_is : (t n : ℕ) → t < length d.segments → segments t ≡ true → with_units (flushed r c) (image d f commits) (length d.processes + t) n ≡ image d g commits' (length d.processes + t) n
  segment_is t n lt inside =
      let other : length d.processes + t ≡ r.pid.0 → 8 ≤ n = λ same. absurd (let there = may.within.process in omega arith) in
      elim (cases_Bool (is_place (shape_of d).blocks (length d.processes + t) n)) [
        | inl there ↦
            beside_is (length d.processes + t) n other (segment_in_area d r.pid.0 segments t may.within.process lt inside)
            ∙ segment_held d g o t n described may.flat lt (place_of_test (shape_of d).blocks (length d.processes + t) n there) (may.bytes t lt inside) (may.shows.whole (length d.processes + t) n)
            ∙ sym (image_segment d g commits' t n lt there)
        | inr out ↦ none_there (length d.processes + t) n other out
      ]

  made : AreAlike (in_area d r.pid.0 segments) (with_units (flushed r c) (image d f commits)) (image d g commits')
  made = record {
    each = λ e n inside. elim (area_cases d r.pid.0 segments e inside) [
      | inl own ↦ subst (λ m. with_units (flushed r c) (image d f commits) m n ≡ image d g commits' m n) (sym own) (process_is n)
      | inr (t, lt, is, extent) ↦ subst (λ m. with_units (flushed r c) (image d f commits) m n ≡ image d g commits' m n) (sym extent) (segment_is t n lt is)
    ];
  }

pub flush_makes_image : FlushMakesImage
flush_makes_image d f g commits commits' segments o r c described may agree one_more read = made d f g commits commits' segments o r c described may agree one_more read
