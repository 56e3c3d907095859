-- The units of a flush are in its area, and a pass writes the image.
use Rattle.std.proofs.Common.{◌≡◌, ℕ, ◌+◌, ◌<◌, Bool, true, All, List, length, get_or, inl, inr, arith, sym, ◌∙◌, ap, subst}
use Rattle.std.proofs.lemmas.Bool.{cases_lt, false≢true}
use Rattle.seq_words.specs.Description.{IsDescription}
use Rattle.seq_words.specs.declared.description.MachineDesc.{MachineDesc}
use Rattle.seq_flat.specs.declared.state.FlatState.{FlatState}
use Rattle.seq_layout.specs.Shapes.{shape_of}
use Rattle.seq_layout.specs.Contexts.{context_blocks}
use Rattle.seq_layout.proofs.Sizes.{process_has_context, process_has_status}
use Rattle.seq_process.specs.declared.running.Running.{Running}
use Rattle.seq_process.specs.Contexts.{saved}
use Rattle.seq_cache.specs.declared.change.Change.{Change}
use Rattle.seq_cache.specs.Changes.{Changes, IsCache}
use Rattle.seq_flush.specs.Turns.{no_change, unit_at}
use Rattle.seq_flush.specs.Units.{IsBeside, HavePlaces}
use Rattle.seq_flush.proofs.Numbered.{length_units, unit_changed, unit_context, units_apart}
use Rattle.seq_kernel.specs.Views.{Blocks}
use Rattle.seq_kernel.proofs.KeptRunning.{own_blocks_are_beside}
use Rattle.seq_image.specs.Images.{image}
use Rattle.seq_image.specs.Areas.{in_area}
use Rattle.seq_image.specs.Flushing.{IsInside, flushed, MayFlush, AreFlushed, OwnBlocksHavePlaces, FlushStaysInside, PassesMakeImage}
use Rattle.seq_image.proofs.Areas.{process_in_area}
use Rattle.seq_image.proofs.FlushedImages.{flush_makes_image}
use Rattle.seq_image.proofs.Writing.{writing_lays_over}

-- What a flush writes has places where each change is beside the context.
have_places : (d : MachineDesc) (pid : ℕ) (changes : List Change) → pid < length d.processes → All (IsBeside (shape_of d) pid) changes → HavePlaces (shape_of d) pid changes
have_places d pid changes below beside = record {
  context = λ k lt. process_has_context d pid k below lt;
  status = process_has_status d pid below;
  changed = beside;
}

pub own_blocks_have_places : OwnBlocksHavePlaces
own_blocks_have_places d r changes below own =
    have_places d r.pid.0 changes below
    (λ k none lt. let change = own_blocks_are_beside d r changes below own k none lt in record { place = change.place; beside = change.beside })

module _ (d : MachineDesc) (g : FlatState) (segments : ℕ → Bool) (o : Blocks) (r : Running) (c : Changes) (described : IsDescription d) (cache : IsCache c) (may : MayFlush d g segments o r c) where
  changes_inside : (k : ℕ) (none : Change) → k < length c.changes → IsInside d r.pid.0 segments (get_or c.changes k none)
  changes_inside k none lt = may.inside k none lt

  flush_places : HavePlaces (shape_of d) r.pid.0 c.changes
  flush_places =
      have_places d r.pid.0 c.changes may.within.process
      (λ k none lt. let change = changes_inside k none lt in record { place = change.place; beside = change.beside })

  unit_inside : (k : ℕ) → k < length (flushed r c) → in_area d r.pid.0 segments (unit_at (flushed r c) k).extent.0 ≡ true
  unit_inside k lt =
      let context = context_blocks (saved r r.pair.a) in
      let below : k < length c.changes + 8 = omega (arith, length_units r.pid.0 context c.changes) in
      elim (cases_lt k (length c.changes)) [
        | inl change ↦ subst (λ (u : Change). in_area d r.pid.0 segments u.extent.0 ≡ true) (sym (unit_changed r.pid.0 context c.changes k no_change change)) (changes_inside k no_change change).area
        | inr past ↦ subst (λ (u : Change). in_area d r.pid.0 segments u.extent.0 ≡ true) (sym (unit_context r.pid.0 context c.changes k past below)) (process_in_area d r.pid.0 segments)
      ]

  are_flushed : AreFlushed d segments r c
  are_flushed = record {
    places = flush_places;
    apart = units_apart (shape_of d) r.pid.0 (context_blocks (saved r r.pair.a)) c.changes cache.ascending flush_places;
    avoid = λ e out. record { each = λ k lt same. false≢true (sym out ∙ ap (in_area d r.pid.0 segments) (sym same) ∙ unit_inside k lt) };
  }

pub flush_stays_inside : FlushStaysInside
flush_stays_inside d g segments o r c described cache may = are_flushed d g segments o r c described cache may

pub passes_make_image : PassesMakeImage
passes_make_image d f g commits commits' segments o p shadow r c described cache may agree one_more read held =
    writing_lays_over (shape_of d) p shadow (in_area d r.pid.0 segments) (flushed r c) (image d f commits) (image d g commits')
    (flush_stays_inside d g segments o r c described cache may).apart held
    (flush_makes_image d f g commits commits' segments o r c described may agree one_more read)
