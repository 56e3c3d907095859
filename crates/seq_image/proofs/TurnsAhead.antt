-- A turn keeps a process ahead.
use Rattle.std.proofs.Common.{◌≡◌, ℕ, ◌<◌, ◌≤◌, Bool, true, false, All, List, length, Some, inl, inr, sym, ◌∙◌, ap, subst}
use Rattle.seq_words.specs.Masks.{has_bit}
use Rattle.seq_words.specs.Description.{IsDescription}
use Rattle.seq_words.specs.declared.description.MachineDesc.{MachineDesc}
use Rattle.seq_words.specs.declared.names.Pid.{Pid}
use Rattle.seq_flat.specs.declared.inputs.LineInput.{LineInput}
use Rattle.seq_flat.specs.declared.state.End.TheVariants.{Live}
use Rattle.seq_flat.specs.declared.state.FlatState.{FlatState}
use Rattle.seq_flat.specs.State.{segment_at}
use Rattle.seq_flat.specs.Run.{steps}
use Rattle.seq_layout.specs.Shapes.{shape_of, segment_extent}
use Rattle.seq_layout.specs.Copies.{Copies, first_block}
use Rattle.seq_process.specs.declared.running.Running.{Running}
use Rattle.seq_cache.specs.Changes.{Changes}
use Rattle.seq_cache.specs.Overlay.{overlay}
use Rattle.seq_kernel.specs.declared.outcomes.Outcome.TheVariants.{Claim}
use Rattle.seq_kernel.specs.Views.{Blocks, read_by}
use Rattle.seq_kernel.specs.Turns.{Turned}
use Rattle.seq_kernel.specs.Steps.{step_of}
use Rattle.seq_kernel.specs.Kept.{keeps_segments, KeepsBounds, KeepsCache}
use Rattle.seq_kernel.specs.Shown.{HoldBytes, Shows}
use Rattle.seq_kernel.specs.Refinement.{takes_step, TakesStep, AsksFor}
use Rattle.seq_kernel.proofs.KeptSteps.{steps_keep_bounds, steps_keep_cache}
use Rattle.seq_kernel.proofs.RefineCallsTurns.{turns_are_flat}
use Rattle.seq_image.specs.Images.{image}
use Rattle.seq_image.specs.Areas.{AreAlike, in_area}
use Rattle.seq_image.specs.Flushing.{with_units, IsInside, MayFlush}
use Rattle.seq_image.proofs.Areas.{alike_sym}
use Rattle.seq_image.proofs.FlushedImages.{reads_over_first}
use Rattle.seq_image.proofs.WholeImages.{image_is_whole}
use Rattle.seq_kernel.specs.Counted.{IsCounted}
use Rattle.seq_image.specs.Depends.{AreWhole, HoldsAmong}
use Rattle.seq_image.specs.Ahead.{over_image, IsAhead, RunsAhead, ReadsImage, TurnsStayAhead, ClaimsAsk}
use Rattle.seq_kernel.proofs.CountedTurns.{turns_are_counted, unused_stay}
use Rattle.seq_kernel.proofs.RefineCallsGrants.{claims_ask_for}
use Rattle.seq_image.proofs.Depends.{held_alike, shown_by_the_area}
use Rattle.seq_image.proofs.Layers.{whole_over, one_more_step, all_inside}

-- what is read over first copies that have their bytes has them, where the same changes have them over other blocks; and the
-- other way round
pub whole_read : (d : MachineDesc) (p : Copies) (c : Changes) (o : Blocks) → AreWhole (with_units c.changes o) → AreWhole (first_block (shape_of d) p) → AreWhole (read_by d p c)
unfolding overlay
whole_read d p c o layered first = record { block = (whole_over c.changes o (first_block (shape_of d) p) layered first).block }

pub whole_image : (d : MachineDesc) (f : FlatState) (commits : ℕ → ℕ) (p : Copies) (c : Changes) → ((e n : ℕ) → length (read_by d p c e n).bytes ≡ 32) → AreWhole (over_image d f commits c)
unfolding overlay
whole_image d f commits p c whole = whole_over c.changes (first_block (shape_of d) p) (image d f commits) (record { block = whole }) (record { block = image_is_whole d f commits })

module _ (d : MachineDesc) (inputs : List LineInput) (f : FlatState) (commits : ℕ → ℕ) (segments : ℕ → Bool) (p : Copies) (r : Running) (c : Changes)
    (described : IsDescription d) (reads : ReadsImage d inputs f commits segments p r) (runs : RunsAhead d inputs f commits segments r c) where
  abbrev g : FlatState
  g = runs.ahead.state

  abbrev after : Turned
  after = step_of d p r c

  abbrev may : MayFlush d g segments (over_image d f commits c) r c
  may = runs.ahead.flush

  shown_read : Shows d g (read_by d p c) r
  shown_read =
      shown_by_the_area d g segments (over_image d f commits c) (read_by d p c) r may.within.process runs.ahead.among
      (whole_read d p c (image d f commits) (record { block = may.shows.whole }) reads.whole)
      (alike_sym (in_area d r.pid.0 segments) (read_by d p c) (over_image d f commits c) (reads_over_first d p c (in_area d r.pid.0 segments) (image d f commits) reads.image))
      may.shows

  bounds : KeepsBounds d r c after
  bounds = steps_keep_bounds d p r c described reads.readable runs.running

  cached : KeepsCache d r c after
  cached = steps_keep_cache d p r c described reads.readable runs.running

  counted : IsCounted d r c after
  counted = turns_are_counted d p r c

  same_process : after.running.pid.0 ≡ r.pid.0
  same_process = ap (λ (q : Pid). q.0) bounds.process

  among_after : HoldsAmong after.running segments
  among_after t on = runs.ahead.among t (counted.fewer t on)

  module _ (step : takes_step after.outcome) where
    taken : TakesStep d inputs g r (read_by d p after.cache) after.running
    taken = turns_are_flat d inputs g p r c described reads.readable runs.running runs.ahead.cache may.flat shown_read reads.input step

    abbrev h : FlatState
    h = taken.state

    shown_after : Shows d h (over_image d f commits after.cache) after.running
    shown_after =
        shown_by_the_area d h segments (read_by d p after.cache) (over_image d f commits after.cache) after.running bounds.within.process among_after
        (whole_image d f commits p after.cache taken.shows.whole)
        (subst (λ q. AreAlike (in_area d q segments) (read_by d p after.cache) (over_image d f commits after.cache)) (sym same_process)
        (reads_over_first d p after.cache (in_area d r.pid.0 segments) (image d f commits) reads.image))
        taken.shows

    bytes_after : (t : ℕ) → t < length d.segments → segments t ≡ true → HoldBytes (over_image d f commits after.cache) (segment_extent (shape_of d) t) 0 (segment_at h t).bytes
    bytes_after t lt inside =
        held_alike d segments r may.within.process runs.ahead.among (read_by d p after.cache) (over_image d f commits after.cache) t (segment_at h t).bytes lt inside
        (reads_over_first d p after.cache (in_area d r.pid.0 segments) (image d f commits) reads.image)
        (taken.bytes t lt (sym (runs.held t lt) ∙ inside))

    inside_after : All (IsInside d after.running.pid.0 segments) after.cache.changes
    inside_after =
        subst (λ q. All (IsInside d q segments) after.cache.changes) (sym same_process)
        (all_inside d r.pid.0 r.held segments after.cache.changes may.within.process (λ t on. (runs.running.within.held t on, runs.ahead.among t on)) (cached.held_before runs.own))

    steps_after : steps d inputs after.running.pid.0 after.running.steps f ≡ Some h
    steps_after =
        subst (λ q. steps d inputs q after.running.steps f ≡ Some h) (sym same_process)
        (subst (λ n. steps d inputs r.pid.0 n f ≡ Some h) (sym (counted.steps step)) (one_more_step d inputs r.pid.0 r.steps f g h runs.ahead.steps taken.step))

    ahead_after : IsAhead d inputs f commits segments after.running after.cache
    ahead_after = record {
      state = h;
      steps = steps_after;
      flush = record { within = bounds.within; unused = (unused_stay d p r c may.unused).0; flat = taken.flat; shows = shown_after; bytes = bytes_after; inside = inside_after };
      among = among_after;
      cache = cached.cache runs.ahead.cache;
      counts = bounds.commits ∙ runs.ahead.counts ∙ ap commits (sym same_process);
    }

    runs_after : keeps_segments after.outcome → after.running.end ≡ Live → after.running.used < d.quantum → RunsAhead d inputs f commits segments after.running after.cache
    runs_after keeps lives left = record {
      ahead = ahead_after;
      running = record { within = bounds.within; live = lives; left = left };
      own = cached.own keeps runs.own;
      held = λ t lt. runs.held t lt ∙ ap (λ m. has_bit m t) (sym (counted.held keeps));
    }

  asks : (t : ℕ) → after.outcome ≡ Claim (record { 0 = t }) → AsksFor d g r t
  asks t claims = claims_ask_for d g p r c t described runs.running may.flat shown_read claims

pub claims_ask : ClaimsAsk
claims_ask d inputs f commits segments p r c t runs described reads claims = asks d inputs f commits segments p r c described reads runs t claims

pub turns_stay_ahead : TurnsStayAhead
turns_stay_ahead d inputs f commits segments p r c described reads runs step = (ahead_after d inputs f commits segments p r c described reads runs step, runs_after d inputs f commits segments p r c described reads runs step)
