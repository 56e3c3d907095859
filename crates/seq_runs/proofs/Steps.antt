-- A step does the same in two states that agree on its process, and changes nothing of others.
use Rattle.std.proofs.Common.{◌≡◌, ℕ, ◌≤◌, true, List, length, Option, Some, None, Ok, refl, sym, ◌∙◌, ap, ap₂, subst, set, inl, inr}
use Rattle.std.specs.Prelude.{nat_lt, ◌&&◌}
use Rattle.std.proofs.lemmas.Bool.{cases_lt}
use Rattle.seq_isa.specs.Meaning.{Bytes, Outcome, moves, call, trap, outcome_at, register}
use Rattle.seq_rv32.specs.ByteMemory.{bytes_stored}
use Rattle.seq_flat.specs.declared.inputs.LineInput.{LineInput}
use Rattle.seq_flat.specs.declared.state.End.TheVariants.{Trapped}
use Rattle.seq_flat.specs.declared.state.ProcessState.{ProcessState}
use Rattle.seq_flat.specs.declared.state.SegmentState.{SegmentState}
use Rattle.seq_flat.specs.declared.state.FlatState.{FlatState}
use Rattle.seq_flat.specs.State.{process_at, segment_at, rights_at, with_process}
use Rattle.seq_flat.specs.Memory.{segment_of, offset_of, seen, admitted}
use Rattle.seq_flat.specs.Calls.{ended, kernel_call}
use Rattle.seq_flat.specs.Step.{process_moved, segments_next, moved, outcome, performed, is_live, step_or_wait}
use Rattle.seq_flat.proofs.Stores.{segments_after_low, segments_after_high, IsShared, fits_shared}
use Rattle.seq_runs.specs.Areas.{holds, HoldsWithin}
use Rattle.seq_rv32.proofs.Outcomes.{outcome_puts}
use Rattle.seq_rv32.specs.Outcomes.{IsPut}
use Rattle.seq_runs.proofs.Touches.{nothing, segment}
use Rattle.seq_runs.proofs.Sames.{Two, Facing, SameTouch, Same, seen_same, either}
use Rattle.seq_runs.proofs.Calls.{ended_same, one_owner, call_same}

-- the instruction of the process does the same
outcome_same : (t : Two) → Facing t → outcome t.f t.p ≡ outcome t.g t.p
outcome_same t h = ap₂ (λ (q : ProcessState) (m : Bytes). outcome_at q.regs m) h.agree.process (seen_same t h)

-- where its store, if it makes one, changes no segment
private_same : (t : Two) (wrote : Option (ℕ × ℕ)) (store : Option (ℕ × ℕ × ℕ)) (next : ℕ) → Facing t → segments_next t.f.segments store ≡ t.f.segments → segments_next t.g.segments store ≡ t.g.segments
    → SameTouch t (moved t.f t.p wrote store next) (Ok (moved t.g t.p wrote store next))
unfolding moved
private_same t wrote store next h near far = record {
  now = process_moved (process_at t.f t.p) wrote store next;
  touch = nothing;
  here = ap (λ segments. record (with_process t.f t.p (process_moved (process_at t.f t.p) wrote store next)) { segments = segments }) near;
  there =
      ap (λ segments. Ok (record (with_process t.g t.p (process_moved (process_at t.g t.p) wrote store next)) { segments = segments })) far
      ∙ ap (λ (q : ProcessState). Ok (with_process t.g t.p (process_moved q wrote store next))) (sym h.agree.process);
  may = tt;
}

-- the segment with the bytes of a store
abbrev stored_in : SegmentState → ℕ → ℕ → ℕ → SegmentState
stored_in s at width value = record s { bytes = bytes_stored s.bytes (offset_of at) width value }

-- where it stores into a segment, which it holds
shared_same : (t : Two) (wrote : Option (ℕ × ℕ)) (at width value next : ℕ) → Facing t → 1073741824 ≤ at → holds t.f t.p (segment_of at) ≡ true
    → SameTouch t (moved t.f t.p wrote (Some (at, width, value)) next) (Ok (moved t.g t.p wrote (Some (at, width, value)) next))
unfolding moved
shared_same t wrote at width value next h high held =
    let inside : t.area (segment_of at) ≡ true = h.near.segment (segment_of at) held in
    let now : SegmentState = stored_in (segment_at t.f (segment_of at)) at width value in
    record {
      now = process_moved (process_at t.f t.p) wrote (Some (at, width, value)) next;
      touch = segment (segment_of at) now;
      here = ap (λ segments. record (with_process t.f t.p (process_moved (process_at t.f t.p) wrote (Some (at, width, value)) next)) { segments = segments }) (segments_after_high t.f.segments at width value high);
      there =
          ap (λ segments. Ok (record (with_process t.g t.p (process_moved (process_at t.g t.p) wrote (Some (at, width, value)) next)) { segments = segments })) (segments_after_high t.g.segments at width value high)
          ∙ ap (λ (q : ProcessState). Ok (record (with_process t.g t.p (process_moved q wrote (Some (at, width, value)) next)) { segments = set t.g.segments (segment_of at) (stored_in (segment_at t.g (segment_of at)) at width value) })) (sym h.agree.process)
          ∙ ap (λ (s : SegmentState). Ok (record (with_process t.g t.p (process_moved (process_at t.f t.p) wrote (Some (at, width, value)) next)) { segments = set t.g.segments (segment_of at) (stored_in s at width value) })) (sym (h.agree.segment (segment_of at) inside));
      may = (inside, λ q other. one_owner t.p q (segment_at t.f (segment_of at)).owner other held);
    }

moved_same : (t : Two) (wrote : Option (ℕ × ℕ)) (store : Option (ℕ × ℕ × ℕ)) (next : ℕ) → Facing t → outcome t.f t.p ≡ moves wrote store next → Same t (Ok (moved t.f t.p wrote store next)) (Ok (moved t.g t.p wrote store next))
unfolding Same
moved_same t wrote None next h is within = private_same t wrote None next h refl refl
moved_same t wrote (Some (at, width, value)) next h is within = elim (cases_lt at 1073741824) [
  | inl low ↦ private_same t wrote (Some (at, width, value)) next h (segments_after_low t.f.segments at width value low) (segments_after_low t.g.segments at width value low)
  | inr high ↦
      let memory : Bytes = seen (process_at t.f t.p).bytes t.f.segments t.p in
      let put : IsPut memory (at, width, value) = outcome_puts (process_at t.f t.p).regs memory wrote (at, width, value) next is in
      let shared : IsShared t.f.segments t.p at width = fits_shared (process_at t.f t.p).bytes t.f.segments t.p at width put.width put.aligned (ap admitted put.there) high in
      shared_same t wrote at width value next h high shared.held
]

performed_same : (t : Two) (inputs : List LineInput) (o : Outcome) → Facing t → outcome t.f t.p ≡ o → Same t (performed (rights_at t.rights t.p) inputs t.f t.p o) (performed (rights_at t.rights t.p) inputs t.g t.p o)
performed_same t inputs (moves wrote store next) h is = moved_same t wrote store next h is
performed_same t inputs call h is =
    let number = register (process_at t.f t.p).regs 17 in
    subst (λ (q : ProcessState). Same t (kernel_call (rights_at t.rights t.p) inputs t.f t.p number) (kernel_call (rights_at t.rights t.p) inputs t.g t.p (register q.regs 17))) h.agree.process (call_same t inputs number h)
performed_same t inputs (trap cause) h is =
    subst (λ (q : ProcessState). Same t (Ok (ended t.f t.p (Trapped cause (process_at t.f t.p).regs.pc))) (Ok (ended t.g t.p (Trapped cause q.regs.pc)))) h.agree.process (ended_same t (Trapped cause (process_at t.f t.p).regs.pc) h)

step_same : (t : Two) (inputs : List LineInput) → Facing t → Same t (step_or_wait t.rights inputs t.f t.p) (step_or_wait t.rights inputs t.g t.p)
unfolding Same step_or_wait
step_same t inputs h =
    either t (nat_lt t.p (length t.f.processes) && is_live (process_at t.f t.p).end) _ _ _ _ _
    (ap₂ (λ n (q : ProcessState). nat_lt t.p n && is_live q.end) h.agree.counts.processes h.agree.process)
    (λ _. subst (λ o. Same t (performed (rights_at t.rights t.p) inputs t.f t.p (outcome t.f t.p)) (performed (rights_at t.rights t.p) inputs t.g t.p o)) (outcome_same t h) (performed_same t inputs (outcome t.f t.p) h refl))
    (λ _. tt)

-- the touch of a step
pub step_touch : (t : Two) (inputs : List LineInput) (f' : FlatState) → Facing t → HoldsWithin t.area t.p f' → step_or_wait t.rights inputs t.f t.p ≡ Ok f' → SameTouch t f' (step_or_wait t.rights inputs t.g t.p)
unfolding Same
step_touch t inputs f' h within stepped = subst (λ r. Same t r (step_or_wait t.rights inputs t.g t.p)) stepped (step_same t inputs h) within
