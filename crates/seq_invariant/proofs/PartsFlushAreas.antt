-- The extents of a flush, by the lock words.
use Rattle.std.proofs.Common.{◌≡◌, ◌⊎◌, inl, inr, ℕ, suc, ◌<◌, true, false, ◌||◌, ◌==◌, List, length, ap, sym, ◌∙◌, subst, arith}
use Rattle.std.proofs.lemmas.Bool.{cases_Bool, cases_eq, cond-true, cond-false, eqb-true, eq-eqb}
use Rattle.seq_words.specs.Masks.{has_bit}
use Rattle.seq_words.specs.declared.description.MachineDesc.{MachineDesc}
use Rattle.seq_words.specs.declared.events.Event.{Event}
use Rattle.seq_words.specs.Description.{IsDescription}
use Rattle.seq_layout.specs.Shapes.{shape_of, segment_extent}
use Rattle.seq_process.specs.declared.running.Running.{Running}
use Rattle.seq_kernel.specs.declared.outcomes.Cause.{Cause}
use Rattle.seq_image.proofs.Areas.{area_cases, process_in_area, segment_in_area}
use Rattle.seq_turns.specs.declared.hand.Hand.TheVariants as hand
use Rattle.seq_turns.specs.declared.hand.FlushAt.{FlushAt}
use Rattle.seq_turns.specs.Machines.{Machine}
use Rattle.seq_stands.specs.Grips.{grip, flush_stage}
use Rattle.seq_stands.specs.Grips.Grip.{On}
use Rattle.seq_stands.specs.Words.{ruling}
use Rattle.seq_stands.specs.Locks.{Hold, lock_view, lock_grip, HandLocks, LockRuled}
use Rattle.seq_stands.specs.Locks.LockGrip.{With}
use Rattle.seq_stands.proofs.Gripped.{Firm, firm_flushing, firm_of, named_firm, same_holder}
use Rattle.seq_invariant.specs.BlockApart.{owners_of}
use Rattle.seq_invariant.specs.BlockAreas.{segments_of}
use Rattle.seq_invariant.specs.BlockWorks.{Committed}
use Rattle.seq_invariant.proofs.BlockApart.{inside}
use Rattle.seq_invariant.specs.Holds.{Holds}
use Rattle.seq_invariant.specs.Processes.{lock}
use Rattle.seq_invariant.specs.AreasHold.{area_of, flush_area}
use Rattle.seq_invariant.specs.FlushAreas.{IsAreaOf, FlushAreasAgree}
use Rattle.seq_invariant.proofs.PartsLocks.{of_whole, left_awaits}
use Rattle.seq_invariant.proofs.PartsFlushes.{whole_bit}
use Rattle.seq_invariant.proofs.PartsResting.{held_names, lock_is}
use Rattle.seq_invariant.proofs.PartsLeft.{run_calm, flush_runs}

module _ (d : MachineDesc) (events : List Event) (at : Committed) (m : Machine) (described : IsDescription d) (st : Holds d events at m) (p : ℕ) (r : Running) (why : Cause) (mask : ℕ) (x : FlushAt) (is : m.hand p ≡ hand.Flushing r why mask x) where
  firm : Firm (m.hand p) r.pid.0
  firm = subst (λ h. Firm h r.pid.0) (sym is) (firm_flushing r why mask x)

  there : r.pid.0 < length d.processes
  there = inside d (owners_of at.state) m st.words.words st.locks p r.pid.0 firm

  -- a segment that it has hold of is one of its own
  by_grip : (t q : ℕ) (hold : Hold) → lock_grip d (m.hand p) t ≡ With q hold → (has_bit r.held t || has_bit mask t) ≡ true
  by_grip t q hold e = (of_whole (has_bit r.held t || has_bit mask t) r.pid.0 q hold (ap (λ h. lock_grip d h t) (sym is) ∙ e)).2

  knows : HandLocks d (owners_of at.state) m.copies (hand.Flushing r why mask x)
  knows = subst (HandLocks d (owners_of at.state) m.copies) is (st.locks.hands p)

  rules : (t y : ℕ) → ((lock_view d m.copies t).up1 ≡ true → (lock_view d m.copies t).word1 ≡ y) → ((lock_view d m.copies t).up2 ≡ true → (lock_view d m.copies t).word2 ≡ y) → ruling (lock_view d m.copies t) ≡ y
  rules t y a b = go (cases_Bool (lock_view d m.copies t).up1)
    where
      go : ((lock_view d m.copies t).up1 ≡ true) ⊎ ((lock_view d m.copies t).up1 ≡ false) → ruling (lock_view d m.copies t) ≡ y
      go (inl up) = cond-true _ _ _ up ∙ a up
      go (inr out) = cond-false _ _ _ out ∙ b (st.words.words.served (segment_extent (shape_of d) t) out)

  -- a segment whose lock names its process
  in_mask : (t : ℕ) → t < length d.segments → lock d m t ≡ suc r.pid.0 → (has_bit r.held t || has_bit mask t) ≡ true
  in_mask t lt says = go (cases_eq (owners_of at.state t) 0)
    where
      now : ruling (lock_view d m.copies t) ≡ suc r.pid.0
      now = sym (lock_is d events at m st t) ∙ says

      by_ruled : LockRuled d m t → (has_bit r.held t || has_bit mask t) ≡ true
      by_ruled (inl k) = let e : suc r.pid.0 ≡ 0 = sym now ∙ k.free in absurd (let c : ⊥ = omega (arith, e) in c)
      by_ruled (inr (inl k)) =
          let same : k.process ≡ r.pid.0 = (let e : suc k.process ≡ suc r.pid.0 = sym k.named ∙ now in omega (arith, e)) in
          let theirs : Firm (m.hand k.holder) r.pid.0 = subst (Firm (m.hand k.holder)) same (firm_of d (m.hand k.holder) t k.process k.hold k.gripped) in
          let one : k.holder ≡ p = same_holder d m st.words.words k.holder p r.pid.0 (named_firm d m st.words.words k.holder r.pid.0 theirs) (named_firm d m st.words.words p r.pid.0 firm) in
          by_grip t k.process k.hold (subst (λ y. lock_grip d (m.hand y) t ≡ With k.process k.hold) one k.gripped)
      by_ruled (inr (inr k)) =
          let named : ruling (lock_view d m.copies t) ≡ suc k.process = cond-true _ _ _ (k.all (segment_extent (shape_of d) t)).0 ∙ k.first in
          let same : k.process ≡ r.pid.0 = (let e : suc k.process ≡ suc r.pid.0 = sym named ∙ now in omega (arith, e)) in
          absurd (run_calm d events at m described st p k.process (flush_stage x) (subst (λ y. y < length d.processes) (sym same) there) (subst (λ y. grip (m.hand p) ≡ On y (flush_stage x)) (sym same) (ap grip is)) (flush_runs x) (left_awaits d m st.words.words k.process k.left))

      go : (owners_of at.state t ≡ 0) ⊎ (owners_of at.state t ≡ 0 → ⊥) → (has_bit r.held t || has_bit mask t) ≡ true
      go (inl none) = by_ruled (st.locks.ruled t lt none)
      go (inr ne) =
          let n = st.locks.owned t lt ne in
          let owner : owners_of at.state t ≡ suc r.pid.0 = sym (rules t (owners_of at.state t) n.first n.second) ∙ now in
          (of_whole (has_bit r.held t || has_bit mask t) r.pid.0 r.pid.0 _ (knows.0.kept t lt owner)).2

  pub is_area_of : IsAreaOf d m r mask
  is_area_of = record {
    named = λ e mine. elim (area_cases d r.pid.0 (λ t. has_bit r.held t || has_bit mask t) e mine) [
      | inl own ↦ subst (λ y. area_of d m r.pid.0 y ≡ true) (sym own) (process_in_area d r.pid.0 (λ t. lock d m t == suc r.pid.0))
      | inr (t, lt, held, extent) ↦ subst (λ y. area_of d m r.pid.0 y ≡ true) (sym extent) (segment_in_area d r.pid.0 (λ t. lock d m t == suc r.pid.0) t there lt
          (eq-eqb (lock d m t) (suc r.pid.0) (held_names d events at m st p r.pid.0 t firm lt (ap (λ h. segments_of d h t) is ∙ whole_bit (has_bit r.held t || has_bit mask t) r.pid.0 ∙ held))))
    ];
    flushed = λ e mine. elim (area_cases d r.pid.0 (λ t. lock d m t == suc r.pid.0) e mine) [
      | inl own ↦ subst (λ y. flush_area d r mask y ≡ true) (sym own) (process_in_area d r.pid.0 (λ t. has_bit r.held t || has_bit mask t))
      | inr (t, lt, says, extent) ↦ subst (λ y. flush_area d r mask y ≡ true) (sym extent) (segment_in_area d r.pid.0 (λ t. has_bit r.held t || has_bit mask t) t there lt (in_mask t lt (eqb-true (lock d m t) (suc r.pid.0) says)))
    ];
  }

pub flush_areas_agree : FlushAreasAgree
flush_areas_agree d events m p r why mask x described all is = is_area_of d events all.at m described all.holds p r why mask x is
