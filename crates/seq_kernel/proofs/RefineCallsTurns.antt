-- Wherever a turn takes a step, it is the flat machine's.
use Rattle.std.proofs.Common.{◌≡◌, ℕ, ◌<◌, true, false, List, length, inl, inr, sym, ◌∙◌, ap, subst}
use Rattle.std.proofs.lemmas.Bool.{cases_Bool, false≢true}
use Rattle.seq_words.specs.Masks.{has_bit}
use Rattle.seq_words.specs.declared.description.MachineDesc.{MachineDesc}
use Rattle.seq_words.specs.declared.names.Pid.{Pid}
use Rattle.seq_flat.specs.declared.inputs.LineInput.{LineInput}
use Rattle.seq_flat.specs.declared.state.FlatState.{FlatState}
use Rattle.seq_flat.specs.State.{segment_at, rights_of}
use Rattle.seq_flat.specs.Memory.{is_owner}
use Rattle.seq_layout.specs.Shapes.{shape_of, segment_extent}
use Rattle.seq_layout.specs.Copies.{Copies}
use Rattle.seq_process.specs.declared.running.Running.{Running}
use Rattle.seq_cache.specs.Changes.{Changes}
use Rattle.seq_kernel.specs.Views.{read_by}
use Rattle.seq_kernel.specs.Turns.{Turned}
use Rattle.seq_kernel.specs.Steps.{step_of}
use Rattle.seq_kernel.specs.Shown.{HoldBytes, Shows}
use Rattle.seq_kernel.specs.Counted.{IsCounted}
use Rattle.seq_kernel.specs.Refinement.{StepsAreFlat}
use Rattle.seq_kernel.proofs.CountedTurns.{turns_are_counted}
use Rattle.seq_kernel.proofs.Owners.{steps_change_bytes_or_owner}
use Rattle.seq_kernel.proofs.RefineStepsTaken.{Taken}
use Rattle.seq_kernel.proofs.RefineCalls.{calls_are_flat}
use Rattle.seq_kernel.proofs.RefineSteps.{steps_are_flat}

module _ (d : MachineDesc) (inputs : List LineInput) (f : FlatState) (p : Copies) (r : Running) (c : Changes) (shows : Shows d f (read_by d p c) r) (after : Turned) (counted : IsCounted d r c after) (taken : Taken d inputs f p r.pid.0 after) where
  -- a segment that is given up keeps its bytes
  given_bytes : (t : ℕ) → t < length d.segments → has_bit r.held t ≡ true → has_bit after.running.held t ≡ false → (segment_at taken.state t).bytes ≡ (segment_at f t).bytes
  given_bytes t lt was off = elim ((steps_change_bytes_or_owner (rights_of d) inputs f taken.state r.pid.0 taken.step).segment t) [
    | inl same ↦ same
    | inr owner ↦
        absurd (false≢true (sym off ∙ (taken.shows.segment t lt).held
        ∙ ap (λ (q : Pid). is_owner q.0 (segment_at taken.state t).owner) counted.process
        ∙ ap (is_owner r.pid.0) owner
        ∙ sym (shows.segment t lt).held ∙ was))
  ]

  -- and the cache stays, so it is seen as before
  bytes_before : (t : ℕ) → t < length d.segments → has_bit r.held t ≡ true → HoldBytes (read_by d p after.cache) (segment_extent (shape_of d) t) 0 (segment_at taken.state t).bytes
  bytes_before t lt was = elim (cases_Bool (has_bit after.running.held t)) [
    | inl on ↦ (taken.shows.segment t lt).bytes on
    | inr off ↦
        subst (λ x. HoldBytes (read_by d p x) (segment_extent (shape_of d) t) 0 (segment_at taken.state t).bytes) (sym (counted.given t was off))
        (subst (λ bytes. HoldBytes (read_by d p c) (segment_extent (shape_of d) t) 0 bytes) (sym (given_bytes t lt was off)) ((shows.segment t lt).bytes was))
  ]

pub turns_are_flat : StepsAreFlat
turns_are_flat d inputs f p r c described readable running cached is shows arrived step =
    let taken : Taken d inputs f p r.pid.0 (step_of d p r c) = steps_are_flat calls_are_flat d inputs f p r c described readable running cached is shows arrived step in
    record {
      state = taken.state;
      step = taken.step;
      flat = taken.flat;
      shows = taken.shows;
      bytes = bytes_before d inputs f p r c shows (step_of d p r c) (turns_are_counted d p r c) taken;
    }
