-- The steps that aren't committed are taken in any order: each process takes its own in an area of its own.
use Rattle.std.proofs.Common.{◌≡◌, ◌≢◌, ◌⊎◌, inl, inr, ℕ, suc, ◌<◌, Bool, true, false, ◌||◌, List, Option, Some, None, length, refl, ap, sym, ◌∙◌, subst, arith}
use Rattle.std.specs.Option.{option_and_then}
use Rattle.std.proofs.lemmas.Bool.{cases_Bool, cases_lt, eqb-true, false≢true}
use Rattle.std.proofs.lemmas.List.{get_or_past}
use Rattle.seq_words.specs.Masks.{has_bit}
use Rattle.seq_words.specs.declared.description.MachineDesc.{MachineDesc}
use Rattle.seq_words.specs.declared.events.Event.{Event}
use Rattle.seq_flat.specs.declared.state.FlatState.{FlatState}
use Rattle.seq_flat.specs.Memory.{is_owner}
use Rattle.seq_flat.specs.Run.{run_from, flat_run}
use Rattle.seq_flat.specs.State.{no_segment, segment_at, start}
use Rattle.seq_flat.proofs.Runs.{runs_go_on}
use Rattle.seq_layout.specs.Shapes.{shape_of, segment_extent}
use Rattle.seq_process.specs.declared.running.Running.{Running}
use Rattle.seq_runs.specs.Areas.{holds}
use Rattle.seq_runs.specs.Ahead as alone
use Rattle.seq_runs.specs.Orders.{AreApart, entries}
use Rattle.seq_runs.proofs.Ahead.{starts_ahead}
use Rattle.seq_runs.proofs.AnyOrder.{any_order_leads_to_one}
use Rattle.seq_turns.specs.declared.hand.Hand.{Hand}
use Rattle.seq_turns.specs.declared.hand.Hand.TheVariants as hand
use Rattle.seq_turns.specs.declared.hand.FlushAt.{FlushAt}
use Rattle.seq_turns.specs.declared.hand.FlushAt.TheVariants as flush
use Rattle.seq_turns.specs.declared.hand.ReleaseAt.TheVariants as release
use Rattle.seq_turns.specs.Machines.{Machine}
use Rattle.seq_turns.proofs.Functions.{lowest_passes}
use Rattle.seq_stands.specs.Locks.{whole_if, half_if, is_lock, lock_view, LockClaims}
use Rattle.seq_stands.specs.Locks.Hold.{Whole}
use Rattle.seq_stands.specs.Locks.LockGrip.{With}
use Rattle.seq_stands.proofs.Gripped.{Firm, firm_running, firm_acquiring, firm_flushing, firm_unlocking}
use Rattle.seq_invariant.specs.BlockApart.{owners_of}
use Rattle.seq_invariant.specs.BlockAreas.{is_whole, segments_of}
use Rattle.seq_invariant.specs.BlockWorks.{Committed}
use Rattle.seq_invariant.specs.BlockHands.{FlushKnows, HandKnows}
use Rattle.seq_invariant.proofs.BlockApart.{lock_claims, lock_of, one_owner, owner_named}
use Rattle.seq_lines.specs.Arrivals.{arrived}
use Rattle.seq_stands.specs.FitHands.{HandFits}
use Rattle.seq_invariant.specs.Holds.{Holds}
use Rattle.seq_invariant.specs.Orders.{running_in, is_process, runner, steps_in, steps_by, uncommitted, with_steps, StepsInAnyOrder}
use Rattle.seq_invariant.proofs.Gives.{committed_is_flat_run}

-- a hand that runs a process has hold of it
runs_firm : (h : Hand) (q : ℕ) → is_process q (running_in h) ≡ true → Firm h q
runs_firm hand.Down q is = absurd (false≢true is)
runs_firm hand.Seek q is = absurd (false≢true is)
runs_firm (hand.Claiming x c) q is = absurd (false≢true is)
runs_firm (hand.Running r) q is = subst (Firm (hand.Running r)) (eqb-true r.pid.0 q is) (firm_running r)
runs_firm (hand.Acquiring r t c) q is = subst (Firm (hand.Acquiring r t c)) (eqb-true r.pid.0 q is) (firm_acquiring r t c)
runs_firm (hand.Flushing r why mask f) q is = subst (Firm (hand.Flushing r why mask f)) (eqb-true r.pid.0 q is) (firm_flushing r why mask f)
runs_firm (hand.Unlocking r why mask l) q is = subst (Firm (hand.Unlocking r why mask l)) (eqb-true r.pid.0 q is) (firm_unlocking r why mask l)
runs_firm (hand.Leaving x l) q is = absurd (false≢true is)
runs_firm (hand.Recovering x) q is = absurd (false≢true is)

-- the segments of a hand are of the description
module _ (d : MachineDesc) where
  of_whole : (b : Bool) (q : ℕ) → is_whole (whole_if b q) ≡ true → b ≡ true
  of_whole true q is = refl
  of_whole false q is = absurd (false≢true is)

  of_half : (b c : Bool) (q : ℕ) → is_whole (half_if b q (whole_if c q)) ≡ true → c ≡ true
  of_half true c q is = absurd (false≢true is)
  of_half false c q is = of_whole c q is

  of_either : (a b : Bool) → (a || b) ≡ true → (a ≡ true) ⊎ (b ≡ true)
  of_either true b is = inl refl
  of_either false b is = inr is

  few : (h : Hand) (t : ℕ) → HandFits d h → segments_of d h t ≡ true → t < length d.segments
  few hand.Down t k is = absurd (false≢true is)
  few hand.Seek t k is = absurd (false≢true is)
  few (hand.Claiming x c) t k is = absurd (false≢true is)
  few (hand.Running r) t k is = k.0.within.held t (of_whole (has_bit r.held t) r.pid.0 is)
  few (hand.Acquiring r s c) t k is = k.0.within.held t (of_half (is_lock d t c.at) (has_bit r.held t) r.pid.0 is)
  few (hand.Flushing r why mask f) t k is = go (of_either (has_bit r.held t) (has_bit mask t) (of_whole (has_bit r.held t || has_bit mask t) r.pid.0 is))
    where
      go : (has_bit r.held t ≡ true) ⊎ (has_bit mask t ≡ true) → t < length d.segments
      go (inl a) = k.0.within.held t a
      go (inr b) = k.2.inside t b
  few (hand.Unlocking r why mask (release.Shadow l)) t k is = go (of_either (has_bit r.held t) (has_bit mask t) (of_whole (has_bit r.held t || has_bit mask t) r.pid.0 is))
    where
      go : (has_bit r.held t ≡ true) ⊎ (has_bit mask t ≡ true) → t < length d.segments
      go (inl a) = k.0.within.held t a
      go (inr b) = k.2.inside t b
  few (hand.Unlocking r why mask (release.Primary l)) t k is = go (of_either (has_bit r.held t) (has_bit mask t) (of_half (is_lock d t l.at) (has_bit r.held t || has_bit mask t) r.pid.0 is))
    where
      go : (has_bit r.held t ≡ true) ⊎ (has_bit mask t ≡ true) → t < length d.segments
      go (inl a) = k.0.within.held t a
      go (inr b) = k.2.inside t b
  few (hand.Leaving x l) t k is = absurd (false≢true is)
  few (hand.Recovering x) t k is = absurd (false≢true is)

module _ (d : MachineDesc) (events : List Event) (at : Committed) (m : Machine) (st : Holds d events at m) where
  -- the area of a process: what its processor has hold of, or what it owns
  abbrev area_by : ℕ → Option ℕ → ℕ → Bool
  area_by q (Some p) t = segments_of d (m.hand p) t
  area_by q None t = holds at.state q t

  abbrev area : ℕ → ℕ → Bool
  area q t = area_by q (runner d m q) t

  -- it is ahead of what is committed by its steps
  flush_ahead : (segments : ℕ → Bool) (p : ℕ) (r : Running) (f : FlushAt) → FlushKnows d at segments m.copies (m.cache p) r f → (state : FlatState) × alone.IsAhead d at.inputs segments r.pid.0 r.steps at.state state
  flush_ahead segments p r (flush.Mark f) k = (k.works.ahead.state, k.works.alone)
  flush_ahead segments p r (flush.First f) k = (k.works.ahead.state, k.works.alone)
  flush_ahead segments p r (flush.Second f) k = (k.rested.works.ahead.state, k.rested.works.alone)
  flush_ahead segments p r (flush.Close f) k = (k.rested.works.ahead.state, k.rested.works.alone)

  hand_ahead : (p q : ℕ) (h : Hand) → HandKnows d at m.copies (m.cache p) h → is_process q (running_in h) ≡ true → (state : FlatState) × alone.IsAhead d at.inputs (segments_of d h) q (steps_in (running_in h)) at.state state
  hand_ahead p q hand.Down k is = absurd (false≢true is)
  hand_ahead p q hand.Seek k is = absurd (false≢true is)
  hand_ahead p q (hand.Claiming x c) k is = absurd (false≢true is)
  hand_ahead p q (hand.Running r) k is = subst (λ x. (state : FlatState) × alone.IsAhead d at.inputs (segments_of d (hand.Running r)) x r.steps at.state state) (eqb-true r.pid.0 q is) (k.works.ahead.state, k.works.alone)
  hand_ahead p q (hand.Acquiring r t c) k is = subst (λ x. (state : FlatState) × alone.IsAhead d at.inputs (segments_of d (hand.Acquiring r t c)) x r.steps at.state state) (eqb-true r.pid.0 q is) (k.runs.works.ahead.state, k.runs.works.alone)
  hand_ahead p q (hand.Flushing r why mask f) k is = subst (λ x. (state : FlatState) × alone.IsAhead d at.inputs (segments_of d (hand.Flushing r why mask f)) x r.steps at.state state) (eqb-true r.pid.0 q is)
      (flush_ahead (segments_of d (hand.Flushing r why mask f)) p r f k.0)
  hand_ahead p q (hand.Unlocking r why mask l) k is = subst (λ x. (state : FlatState) × alone.IsAhead d at.inputs (segments_of d (hand.Unlocking r why mask l)) x r.steps at.state state) (eqb-true r.pid.0 q is)
      (k.0.rested.works.ahead.state, k.0.rested.works.alone)
  hand_ahead p q (hand.Leaving x l) k is = absurd (false≢true is)
  hand_ahead p q (hand.Recovering x) k is = absurd (false≢true is)

  ahead_by : (q : ℕ) (o : Option ℕ) → runner d m q ≡ o → (state : FlatState) × alone.IsAhead d at.inputs (area_by q o) q (steps_by m o) at.state state
  ahead_by q (Some p) e = hand_ahead p q (m.hand p) (st.blocks.hands p) (lowest_passes (λ x. is_process q (running_in (m.hand x))) d.processors p e).0
  ahead_by q None e = (at.state, starts_ahead d at.inputs (holds at.state q) q at.state (record { segment = λ t is. is }))

  ahead : (q : ℕ) → (state : FlatState) × alone.IsAhead d at.inputs (area q) q (uncommitted d m q) at.state state
  ahead q = ahead_by q (runner d m q) refl

  -- the locks of an area name the process
  named_by : (q : ℕ) (o : Option ℕ) → runner d m q ≡ o → (t : ℕ) → area_by q o t ≡ true → (t < length d.segments) × LockClaims (lock_view d m.copies t) (With q Whole)
  named_by q (Some p) e t is =
      let firm : Firm (m.hand p) q = runs_firm (m.hand p) q (lowest_passes (λ x. is_process q (running_in (m.hand x))) d.processors p e).0 in
      let lt : t < length d.segments = few d (m.hand p) t (st.fits.hands.hands p) is in
      (lt, subst (LockClaims (lock_view d m.copies t)) (lock_of d (owners_of at.state) m st.words.words st.locks p q 0 t firm is) (lock_claims d (owners_of at.state) m.copies (m.hand p) (st.locks.hands p) t lt))
  named_by q None e t is = elim (cases_lt t (length d.segments)) [
    | inl lt ↦
        let owner : owners_of at.state t ≡ suc q = owner_named q (segment_at at.state t).owner is in
        let named = st.locks.owned t lt (λ z. let c : ⊥ = omega (arith, z, owner) in c) in
        (lt, (λ up. named.first up ∙ owner, λ up. named.second up ∙ owner))
    | inr past ↦ absurd (false≢true (sym (ap (λ s. is_owner q s.owner) (get_or_past at.state.segments t no_segment (let l = st.blocks.committed.reached.flat.segments in omega (arith, past, l)))) ∙ is))
  ]

  apart : (p q : ℕ) → q ≢ p → AreApart (area p) (area q)
  apart p q ne t is = go (cases_Bool (area q t))
    where
      go : (area q t ≡ true) ⊎ (area q t ≡ false) → area q t ≡ false
      go (inr out) = out
      go (inl also) =
          let mine = named_by p (runner d m p) refl t is in
          let theirs = named_by q (runner d m q) refl t also in
          absurd (ne (one_owner (lock_view d m.copies t) q p (st.words.words.served (segment_extent (shape_of d) t)) theirs.1 mine.1))

pub steps_in_any_order : StepsInAnyOrder
steps_in_any_order d events m ps qs described all different different' same =
    let at : Committed = all.at in
    let one = any_order_leads_to_one d at.inputs (area d events at m all.holds) (uncommitted d m) (λ q. (ahead d events at m all.holds q).0) at.state ps qs described (apart d events at m all.holds) (λ q is. (ahead d events at m all.holds q).1) different different' same in
    record { state = one.state; first = on ps one.first; second = on qs one.second }
  where
    on : {state : FlatState} (xs : List ℕ) → run_from d all.at.inputs all.at.state (entries (uncommitted d m) xs) ≡ Some state → flat_run d (arrived d events) (with_steps d m xs) ≡ Some state
    on xs ran = runs_go_on d (arrived d events) m.history (entries (uncommitted d m) xs) (start d) ∙ ap (λ o. option_and_then (λ g. run_from d (arrived d events) g (entries (uncommitted d m) xs)) o) (committed_is_flat_run d events m all)
        ∙ ap (λ i. run_from d i all.at.state (entries (uncommitted d m) xs)) (sym all.holds.input) ∙ ran
