-- A process without uncommitted steps or changes, in a smaller area that has all that it holds.
use Rattle.std.proofs.Common.{◌≡◌, ℕ, ◌<◌, Bool, true, false, length, Some, inl, inr, sym, ap, ◌∙◌, subst, arith}
use Rattle.std.proofs.lemmas.Bool.{cases_lt, false≢true}
use Rattle.seq_words.specs.Masks.{has_bit}
use Rattle.seq_words.specs.declared.description.MachineDesc.{MachineDesc}
use Rattle.std.proofs.lemmas.List.{get_or_past}
use Rattle.seq_flat.specs.State.{no_segment}
use Rattle.seq_flat.specs.Run.{steps}
use Rattle.seq_flat.specs.Reached.{IsReached}
use Rattle.seq_flat.specs.Memory.{is_owner}
use Rattle.seq_layout.specs.Shapes.{shape_of}
use Rattle.seq_layout.specs.Copies.{Copies}
use Rattle.seq_process.specs.declared.running.Running.{Running}
use Rattle.seq_cache.specs.Changes.{Changes}
use Rattle.seq_kernel.specs.Views.{Blocks}
use Rattle.seq_runs.specs.Areas.{HoldsWithin}
use Rattle.seq_runs.specs.Ahead as alone
use Rattle.seq_runs.proofs.Ahead.{starts_ahead, no_steps}
use Rattle.seq_image.specs.Areas.{in_area}
use Rattle.seq_image.proofs.Areas.{area_cases, process_in_area, segment_in_area}
use Rattle.seq_image.specs.Depends.{HoldsAmong}
use Rattle.seq_image.specs.Ahead.{IsAhead, emptied}
use Rattle.seq_image.proofs.CommitsAhead.{area_may_shrink}
use Rattle.seq_invariant.specs.BlockAreas.{BothHold}
use Rattle.seq_invariant.specs.BlockWorks.{Committed, committed_blocks, Works, Rested}
use Rattle.seq_invariant.specs.BlockHands.{Closes}
use Rattle.seq_invariant.proofs.BlockCopies.{holds_less}

-- an area with fewer segments
pub area_less : (d : MachineDesc) (q : ℕ) (segments less : ℕ → Bool) → q < length d.processes → ((t : ℕ) → less t ≡ true → segments t ≡ true) → (e : ℕ) → in_area d q less e ≡ true → in_area d q segments e ≡ true
area_less d q segments less there within e inside = elim (area_cases d q less e inside) [
  | inl own ↦ subst (λ x. in_area d q segments x ≡ true) (sym own) (process_in_area d q segments)
  | inr (t, lt, is, extent) ↦ subst (λ x. in_area d q segments x ≡ true) (sym extent) (segment_in_area d q segments t there lt (within t is))
]

pub both_less : (d : MachineDesc) (p : Copies) (q : ℕ) (segments less : ℕ → Bool) (o : Blocks) → q < length d.processes → ((t : ℕ) → less t ≡ true → segments t ≡ true) →
    BothHold (shape_of d) p (in_area d q segments) o → BothHold (shape_of d) p (in_area d q less) o
both_less d p q segments less o there within both = record {
  primaries = holds_less (shape_of d) p false (in_area d q segments) (in_area d q less) o (area_less d q segments less there within) both.primaries;
  shadows = holds_less (shape_of d) p true (in_area d q segments) (in_area d q less) o (area_less d q segments less there within) both.shadows;
}

pub some_same : {A : Type 0} {x y : A} → Some x ≡ Some y → x ≡ y
some_same e = cc

module _ (d : MachineDesc) (at : Committed) (segments : ℕ → Bool) (r : Running) (c : Changes) where
  -- what the process holds in the state that it has reached, its mask has
  pub held_within : (works : Works d at segments r (emptied c)) → HoldsWithin (has_bit r.held) r.pid.0 works.ahead.state
  held_within works = record {
    segment = λ t held. elim (cases_lt t (length d.segments)) [
      | inl lt ↦ (works.ahead.flush.shows.segment t lt).held ∙ held
      | inr past ↦ absurd (false≢true (sym (ap (λ s. is_owner r.pid.0 s.owner) (get_or_past works.ahead.state.segments t no_segment (omega (arith, past, works.ahead.flush.flat.segments)))) ∙ held))
    ];
  }

  pub works_less : (less : ℕ → Bool) → ((t : ℕ) → less t ≡ true → segments t ≡ true) → HoldsAmong r less → r.steps ≡ 0 → Works d at segments r (emptied c) → Works d at less r (emptied c)
  works_less less within among none works =
      let g = works.ahead.state in
      let shrunk : IsAhead d at.inputs at.state at.commits less r (emptied c) = area_may_shrink d at.inputs at.state at.commits segments less r c within among works.ahead in
      let same : g ≡ shrunk.state = some_same (sym works.ahead.steps ∙ shrunk.steps) in
      let start : at.state ≡ g = no_steps d at.inputs r.pid.0 at.state g (subst (λ n. steps d at.inputs r.pid.0 n at.state ≡ Some g) none works.ahead.steps) in
      let holds : HoldsWithin less r.pid.0 g = record { segment = λ t held. among t ((held_within works).segment t held) } in
      let alone0 : alone.IsAhead d at.inputs less r.pid.0 0 g g = starts_ahead d at.inputs less r.pid.0 g holds in
      let alone1 : alone.IsAhead d at.inputs less r.pid.0 0 at.state g = subst (λ f. alone.IsAhead d at.inputs less r.pid.0 0 f g) (sym start) alone0 in
      let alone2 : alone.IsAhead d at.inputs less r.pid.0 r.steps at.state g = subst (λ n. alone.IsAhead d at.inputs less r.pid.0 n at.state g) (sym none) alone1 in
      record {
        ahead = shrunk;
        alone = subst (λ x. alone.IsAhead d at.inputs less r.pid.0 r.steps at.state x) same alone2;
        reached = subst (IsReached d) same works.reached;
        equal = works.equal;
      }

  pub rested_less : (less : ℕ → Bool) → ((t : ℕ) → less t ≡ true → segments t ≡ true) → HoldsAmong r less → Rested d at segments r c → Rested d at less r c
  rested_less less within among rested = record { works = works_less less within among rested.none rested.works; none = rested.none }

  pub closes_less : (p : Copies) (less : ℕ → Bool) → ((t : ℕ) → less t ≡ true → segments t ≡ true) → HoldsAmong r less → Closes d at segments p c r → Closes d at less p c r
  closes_less p less within among closes = record {
    rested = rested_less less within among closes.rested;
    both = both_less d p r.pid.0 segments less (committed_blocks d at) closes.rested.works.ahead.flush.within.process within closes.both;
    cached = record { each = λ e n inside. closes.cached.each e n (area_less d r.pid.0 segments less closes.rested.works.ahead.flush.within.process within e inside) };
  }
