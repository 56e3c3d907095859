-- A stop of a processor keeps what stands of the blocks.
use Rattle.std.proofs.Common.{◌≡◌, ◌⊎◌, ℕ, ◌+◌, ◌<◌, Bool, true, false, not, length, inl, inr, refl, sym, ap, ◌∙◌, subst, arith}
use Rattle.std.proofs.lemmas.Bool.{cases_eq, and_parts, false≢true}
use Rattle.seq_words.specs.declared.description.MachineDesc.{MachineDesc}
use Rattle.seq_layout.specs.Shapes.{Shape, shape_of}
use Rattle.seq_layout.specs.Copies.{Copies, serves}
use Rattle.seq_cache.specs.Changes.{Changes, IsCache}
use Rattle.seq_kernel.specs.Views.{Blocks}
use Rattle.seq_image.specs.Areas.{CopyHolds}
use Rattle.seq_image.specs.Ahead.{emptied}
use Rattle.seq_turns.specs.declared.hand.Hand.{Hand}
use Rattle.seq_turns.specs.declared.hand.Hand.TheVariants as hand
use Rattle.seq_turns.specs.declared.hand.FlushAt.{FlushAt}
use Rattle.seq_turns.specs.declared.hand.FlushAt.TheVariants as flush
use Rattle.seq_turns.specs.Machines.{Machine}
use Rattle.seq_turns.specs.Events.{stopped}
use Rattle.seq_turns.proofs.Functions.{update_same, update_other, update_cases}
use Rattle.seq_invariant.specs.BlockAreas.{hand_area, left_area, segments_of, BothHold, Rests}
use Rattle.seq_invariant.specs.BlockWorks.{Committed, committed_blocks}
use Rattle.seq_invariant.specs.BlockHands.{FlushKnows, HandKnows}
use Rattle.seq_invariant.specs.BlockLeft.{IsLeft, LeftKnows}
use Rattle.seq_invariant.specs.BlockStanding.{IsInHand, IsInLeft, ExtentStands, BlocksStand}
use Rattle.seq_invariant.specs.BlockStops.{GoesWay, IsLeftBy, Leaves, IsStop, StopsKeepBlocks}
use Rattle.seq_invariant.proofs.BlockCopies.{holds_less}
use Rattle.seq_invariant.proofs.BlockFrame.{left_there, left_inside}

pub empty_cache : (c : Changes) → IsCache c → IsCache (emptied c)
empty_cache c is = record { ascending = record { pairs = λ i j x lt inside. absurd (omega arith) }; fits = omega arith; small = is.small }

-- where both copies hold blocks, each extent of the area is at rest
pub both_rest : (s : Shape) (p : Copies) (area : ℕ → Bool) (o : Blocks) (e : ℕ) → area e ≡ true → BothHold s p area o → Rests s p o e
both_rest s p area o e inside both = record { each = each }
  where
    each : (n : ℕ) (shadow : Bool) → serves s p e shadow ≡ true → p.block e n shadow ≡ o e n
    each n false serving = both.primaries.each e n (rw (inside, serving) refl)
    each n true serving = both.shadows.each e n (rw (inside, serving) refl)

-- and the other way round
pub rest_holds : (s : Shape) (p : Copies) (shadow : Bool) (area : ℕ → Bool) (o : Blocks) → ((e : ℕ) → area e ≡ true → Rests s p o e) → CopyHolds s p shadow area o
rest_holds s p shadow area o rests = record {
  each = λ e n inside. let parts = and_parts (area e) (serves s p e shadow) inside in (rests e parts.0).each n shadow parts.1;
}

module _ (d : MachineDesc) (at : Committed) (m : Machine) (p : ℕ) (stop : IsStop d m p) (st : BlocksStand d at m) where
  abbrev n : Machine
  n = stopped m p

  abbrev o : Blocks
  o = committed_blocks d at

  -- an extent in which nobody has anything to do
  at_rest : (e : ℕ) → e < length d.processes + length d.segments → (IsInHand d m e → ⊥) → (IsInLeft d m e → ⊥) → Rests (shape_of d) m.copies o e
  at_rest e lt hands left = go (st.extents e lt)
    where
      go : ExtentStands d at m e → Rests (shape_of d) m.copies o e
      go (inl h) = absurd (hands h)
      go (inr (inl h)) = absurd (left h)
      go (inr (inr h)) = h

  -- who is left by the processor
  left_by : (q : ℕ) (forward : Bool) → q < length d.processes → (h : Hand) → HandKnows d at m.copies (m.cache p) h → IsLeftBy d m q forward h → LeftKnows d at m.copies q forward
  left_by q forward there hand.Down k by = absurd by
  left_by q forward there hand.Seek k by = absurd by
  left_by q forward there (hand.Claiming x y) k by = absurd by
  left_by q forward there (hand.Running r) k by = absurd by
  left_by q forward there (hand.Acquiring r t y) k by = absurd by
  left_by q forward there (hand.Unlocking r why mask l) k by = absurd by
  left_by q forward there (hand.Leaving x l) k by = absurd by
  left_by q forward there (hand.Recovering x) k by = rest_holds (shape_of d) m.copies (not forward) (left_area d m.copies q) o (λ e inside. at_rest e (left_inside d m.copies q e there inside) (by e inside).hand (by e inside).left)
  left_by q forward there (hand.Flushing r why mask f) k by = holds_less (shape_of d) m.copies (not forward) area (left_area d m.copies q) o by.2 (go f forward by.1 k.0)
    where
      segments : ℕ → Bool
      segments = segments_of d (hand.Flushing r why mask f)

      area : ℕ → Bool
      area = hand_area d (hand.Flushing r why mask f)

      go : (f' : FlushAt) (forward : Bool) → GoesWay f' forward → FlushKnows d at (segments_of d (hand.Flushing r why mask f')) m.copies (m.cache p) r f' → CopyHolds (shape_of d) m.copies (not forward) (hand_area d (hand.Flushing r why mask f')) o
      go (flush.Mark x) forward way k' = subst (λ b. CopyHolds (shape_of d) m.copies (not b) (hand_area d (hand.Flushing r why mask (flush.Mark x))) o) (sym way) k'.both.shadows
      go (flush.First x) forward way k' = subst (λ b. CopyHolds (shape_of d) m.copies (not b) (hand_area d (hand.Flushing r why mask (flush.First x))) o) (sym way) k'.shadows
      go (flush.Second x) forward way k' = subst (λ b. CopyHolds (shape_of d) m.copies (not b) (hand_area d (hand.Flushing r why mask (flush.Second x))) o) (sym way) k'.primaries
      go (flush.Close x) forward way k' = subst (λ b. CopyHolds (shape_of d) m.copies (not b) (hand_area d (hand.Flushing r why mask (flush.Close x))) o) (sym way) k'.both.primaries

  left_knows : (q : ℕ) (forward : Bool) → IsLeft d n q forward → LeftKnows d at m.copies q forward
  left_knows q forward is = go (stop.newly q forward is)
    where
      go : IsLeft d m q forward ⊎ IsLeftBy d m q forward (m.hand p) → LeftKnows d at m.copies q forward
      go (inl was) = st.left q forward was
      go (inr by) = left_by q forward (left_there d n q forward is) (m.hand p) (st.hands p) by

  -- an extent of the hand that is lost
  own_extent : (e : ℕ) (h : Hand) → hand_area d h e ≡ true → HandKnows d at m.copies (m.cache p) h → Leaves d m n h → ExtentStands d at n e
  own_extent e hand.Down inside k leaves = absurd (false≢true inside)
  own_extent e hand.Seek inside k leaves = absurd (false≢true inside)
  own_extent e (hand.Claiming x y) inside k leaves = absurd (false≢true inside)
  own_extent e (hand.Running r) inside k leaves = inr (inr (both_rest (shape_of d) m.copies (hand_area d (hand.Running r)) o e inside k.both))
  own_extent e (hand.Acquiring r t y) inside k leaves = inr (inr (both_rest (shape_of d) m.copies (hand_area d (hand.Acquiring r t y)) o e inside k.runs.both))
  own_extent e (hand.Flushing r why mask (flush.Mark f)) inside k leaves = inr (inr (both_rest (shape_of d) m.copies (hand_area d (hand.Flushing r why mask (flush.Mark f))) o e inside k.0.both))
  own_extent e (hand.Flushing r why mask (flush.First f)) inside k leaves =
      let gone = leaves tt false refl in
      inr (inl (record { process = r.pid.0; forward = false; left = gone.0; inside = gone.1 e inside }))
  own_extent e (hand.Flushing r why mask (flush.Second f)) inside k leaves =
      let gone = leaves tt true refl in
      inr (inl (record { process = r.pid.0; forward = true; left = gone.0; inside = gone.1 e inside }))
  own_extent e (hand.Flushing r why mask (flush.Close f)) inside k leaves = inr (inr (both_rest (shape_of d) m.copies (hand_area d (hand.Flushing r why mask (flush.Close f))) o e inside k.0.both))
  own_extent e (hand.Unlocking r why mask l) inside k leaves = inr (inr (both_rest (shape_of d) m.copies (hand_area d (hand.Unlocking r why mask l)) o e inside k.0.both))
  own_extent e (hand.Leaving x l) inside k leaves = absurd (false≢true inside)
  own_extent e (hand.Recovering x) inside k leaves = absurd (false≢true inside)

  extent_stands : (e : ℕ) → ExtentStands d at m e → ExtentStands d at n e
  extent_stands e (inl h) = go (cases_eq h.holder p)
    where
      go : (h.holder ≡ p) ⊎ (h.holder ≡ p → ⊥) → ExtentStands d at n e
      go (inl i) = own_extent e (m.hand p) (ap (λ r. hand_area d (m.hand r) e) (sym i) ∙ h.inside) (st.hands p) stop.leaves
      go (inr ne) = inl (record { holder = h.holder; inside = ap (λ k. hand_area d k e) (update_other m.hand p hand.Down h.holder ne) ∙ h.inside })
  extent_stands e (inr (inl h)) = inr (inl (record { process = h.process; forward = h.forward; left = stop.still h.process h.forward h.left; inside = h.inside }))
  extent_stands e (inr (inr h)) = inr (inr h)

  pub stop_keeps : BlocksStand d at n
  stop_keeps = record {
    committed = record { run = st.committed.run; commits = st.committed.commits; reached = st.committed.reached; fit = st.committed.fit };
    blocks = st.blocks;
    caches = λ r. update_cases IsCache m.cache p (emptied (m.cache p)) r (λ _. empty_cache (m.cache p) (st.caches p)) (λ _. st.caches r);
    hands = λ r. hand_at r (cases_eq r p);
    left = left_knows;
    extents = λ e lt. extent_stands e (st.extents e lt);
  }
    where
      hand_at : (r : ℕ) → (r ≡ p) ⊎ (r ≡ p → ⊥) → HandKnows d at n.copies (n.cache r) (n.hand r)
      hand_at r (inl e) = subst (λ x. HandKnows d at m.copies (n.cache r) (n.hand x)) (sym e) (subst (HandKnows d at m.copies (n.cache r)) (sym (update_same m.hand p hand.Down)) tt)
      hand_at r (inr ne) =
          subst (λ c. HandKnows d at m.copies c (n.hand r)) (sym (update_other m.cache p (emptied (m.cache p)) r ne)) (subst (HandKnows d at m.copies (m.cache r)) (sym (update_other m.hand p hand.Down r ne)) (st.hands r))

pub stops_keep_blocks : StopsKeepBlocks
stops_keep_blocks d at m p stop st = stop_keeps d at m p stop st
