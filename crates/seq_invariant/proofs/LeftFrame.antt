-- A processor that has no extents, before and after its move, recovers a process: what stands of the blocks of others stays.
use Rattle.std.proofs.Common.{◌≡◌, ◌≢◌, ◌⊎◌, inl, inr, ℕ, Bool, true, false, not, Option, Some, None, slice_get, refl, ap, sym, ◌∙◌, subst}
use Rattle.std.proofs.lemmas.Bool.{cases_Bool, cases_eq, false≢true}
use Rattle.seq_words.specs.declared.description.MachineDesc.{MachineDesc}
use Rattle.seq_layout.specs.Shapes.{shape_of}
use Rattle.seq_cache.specs.Changes.{IsCache}
use Rattle.seq_image.specs.Flushing.{KeepsCopies}
use Rattle.seq_turns.specs.declared.hand.Hand.{Hand}
use Rattle.seq_turns.specs.declared.hand.Hand.TheVariants as hand
use Rattle.seq_turns.specs.declared.hand.RecoveryAt.{RecoveryAt}
use Rattle.seq_turns.specs.declared.hand.RecoveryAt.TheVariants as recovery
use Rattle.seq_turns.specs.Machines.{Machine, Move, copies_after, after_move}
use Rattle.seq_recover.specs.Reading.{names, recovered_blocks}
use Rattle.seq_turns.proofs.Functions.{update_same, update_other, update_cases}
use Rattle.seq_invariant.specs.BlockAreas.{hand_area, left_area}
use Rattle.seq_invariant.specs.BlockWorks.{Committed, committed_blocks}
use Rattle.seq_invariant.specs.BlockHands.{IsSame, RecoveryKnows, HandKnows}
use Rattle.seq_invariant.specs.BlockLeft.{HasToCopy, IsLeft, LeftKnows}
use Rattle.seq_invariant.specs.BlockStanding.{AreBlocks, ExtentStands, BlocksStand}
use Rattle.seq_invariant.proofs.BlockCopies.{holds_kept, holds_less}
use Rattle.seq_invariant.proofs.BlockFrame.{recovered_inside, recovered_same, left_same, left_there}
use Rattle.seq_invariant.proofs.BlockStays.{hand_kept}
use Rattle.seq_invariant.proofs.Moved.{same_committed}

-- What is known of such a move, by which process q is recovered: it changes blocks of some extents alone, that are those of no other
-- processor and of no other process that was left.
pub record Recovers (d : MachineDesc) (at : Committed) (m : Machine) (p q : ℕ) (move : Move) (touched : ℕ → Bool) : Type 0 where
  pub none : move.commit ≡ None
  pub cache : IsCache move.cache
  pub before : (e : ℕ) → hand_area d (m.hand p) e ≡ false
  pub block : (e n : ℕ) (c : Bool) → touched e ≡ false → (copies_after move.change m.copies).block e n c ≡ m.copies.block e n c
  pub are : AreBlocks d (copies_after move.change m.copies)
  pub hands : (r e : ℕ) → r ≢ p → hand_area d (m.hand r) e ≡ true → touched e ≡ false
  pub lefts : (x e : ℕ) (forward : Bool) → x ≢ q → IsLeft d m x forward → left_area d m.copies x e ≡ true → touched e ≡ false
  pub names : (x t : ℕ) → x ≢ q → names d (copies_after move.change m.copies) x t false ≡ names d m.copies x t false
  pub back : (x : ℕ) (forward : Bool) → x ≢ q → IsLeft d (after_move p move m) x forward → IsLeft d m x forward
  pub on : (x : ℕ) (forward : Bool) → x ≢ q → IsLeft d m x forward → IsLeft d (after_move p move m) x forward
  pub others : (r : ℕ) (x : RecoveryAt) (y : ℕ) (forward : Bool) → r ≢ p → m.hand r ≡ hand.Recovering x → HasToCopy x y forward → y ≢ q
  pub mine : (forward : Bool) → IsLeft d (after_move p move m) q forward → LeftKnows d at (copies_after move.change m.copies) q forward
  pub knows : HandKnows d at (copies_after move.change m.copies) move.cache move.hand
  pub extents : (e : ℕ) (forward : Bool) → IsLeft d m q forward → left_area d m.copies q e ≡ true → ExtentStands d at (after_move p move m) e
  pub rests : (e : ℕ) → touched e ≡ true → ExtentStands d at (after_move p move m) e

module _ (d : MachineDesc) (at : Committed) (m : Machine) (p q : ℕ) (move : Move) (touched : ℕ → Bool) (known : Recovers d at m p q move touched) (st : BlocksStand d at m) where
  abbrev n : Machine
  n = after_move p move m

  keeps : (area : ℕ → Bool) → ((e : ℕ) → area e ≡ true → touched e ≡ false) → (shadow : Bool) → KeepsCopies (shape_of d) m.copies n.copies shadow area
  keeps area out shadow = record { served = λ e there serving. serving; block = λ e k there serving. known.block e k shadow (out e there) }

  -- another hand
  hand_stays : (r : ℕ) → r ≢ p → (h : Hand) → m.hand r ≡ h → HandKnows d at m.copies (m.cache r) h → HandKnows d at n.copies (m.cache r) h
  hand_stays r ne h e k = hand_kept d at m.copies n.copies (m.cache r) h
      (record { primaries = keeps (hand_area d h) (λ a is. known.hands r a ne (ap (λ y. hand_area d y a) e ∙ is)) false; shadows = keeps (hand_area d h) (λ a is. known.hands r a ne (ap (λ y. hand_area d y a) e ∙ is)) true })
      (λ x is. recovers x (e ∙ is)) k
    where
      recovers : (x : RecoveryAt) → m.hand r ≡ hand.Recovering x → RecoveryKnows d m.copies x → RecoveryKnows d n.copies x
      recovers (recovery.Claimed x) is h = tt
      recovers (recovery.Copying x) is h = record {
        inside = h.inside;
        same = λ j below. subst (λ xs. IsSame n.copies (slice_get xs j)) (sym (recovered_same d m.copies n.copies x.pid.0 (λ u. known.names x.pid.0 u apart))) (one_same j (slice_get (recovered_blocks d m.copies x.pid.0) j) refl (h.same j below));
      }
        where
          apart : x.pid.0 ≢ q
          apart = known.others r (recovery.Copying x) x.pid.0 x.forward ne is (refl, refl)

          who : IsLeft d m x.pid.0 x.forward
          who = inr (record { inside = h.inside; processor = r; at = recovery.Copying x; hand = is; copies = (refl, refl) })

          one_same : (j : ℕ) (o : Option (ℕ × ℕ)) → slice_get (recovered_blocks d m.copies x.pid.0) j ≡ o → IsSame m.copies o → IsSame n.copies o
          one_same j (Some b) found same =
              let out : touched b.0 ≡ false = known.lefts x.pid.0 b.0 x.forward apart who (recovered_inside d m.copies x.pid.0 j b h.inside found) in
              known.block b.0 b.1 true out ∙ same ∙ sym (known.block b.0 b.1 false out)
          one_same j None found same = tt
      recovers (recovery.Locks x) is h = tt
      recovers (recovery.Closing x) is h = tt

  left_stays : (x : ℕ) (forward : Bool) → IsLeft d n x forward → LeftKnows d at n.copies x forward
  left_stays x forward is = go (cases_eq x q)
    where
      go : (x ≡ q) ⊎ (x ≡ q → ⊥) → LeftKnows d at n.copies x forward
      go (inl e) = subst (λ y. LeftKnows d at n.copies y forward) (sym e) (known.mine forward (subst (λ y. IsLeft d n y forward) e is))
      go (inr ne) =
          let was : IsLeft d m x forward = known.back x forward ne is in
          holds_less (shape_of d) n.copies (not forward) (left_area d m.copies x) (left_area d n.copies x) (committed_blocks d at) (left_same d m.copies n.copies x (left_there d m x forward was) (λ u. known.names x u ne))
          (holds_kept (shape_of d) m.copies n.copies (not forward) (left_area d m.copies x) (committed_blocks d at) (keeps (left_area d m.copies x) (λ e there. known.lefts x e forward ne was there) (not forward)) (st.left x forward was))

  extent_stays : (e : ℕ) → ExtentStands d at m e → ExtentStands d at n e
  extent_stays e (inl h) = go (cases_eq h.holder p)
    where
      go : (h.holder ≡ p) ⊎ (h.holder ≡ p → ⊥) → ExtentStands d at n e
      go (inl i) = absurd (false≢true (sym (known.before e) ∙ ap (λ r. hand_area d (m.hand r) e) (sym i) ∙ h.inside))
      go (inr ne) = inl (record { holder = h.holder; inside = ap (λ k. hand_area d k e) (update_other m.hand p move.hand h.holder ne) ∙ h.inside })
  extent_stays e (inr (inl h)) = go (cases_eq h.process q)
    where
      go : (h.process ≡ q) ⊎ (h.process ≡ q → ⊥) → ExtentStands d at n e
      go (inl i) = known.extents e h.forward (subst (λ y. IsLeft d m y h.forward) i h.left) (ap (λ y. left_area d m.copies y e) (sym i) ∙ h.inside)
      go (inr ne) = inr (inl (record {
        process = h.process;
        forward = h.forward;
        left = known.on h.process h.forward ne h.left;
        inside = left_same d n.copies m.copies h.process (left_there d m h.process h.forward h.left) (λ u. sym (known.names h.process u ne)) e h.inside;
      }))
  extent_stays e (inr (inr h)) = go (cases_Bool (touched e))
    where
      go : (touched e ≡ true) ⊎ (touched e ≡ false) → ExtentStands d at n e
      go (inl is) = known.rests e is
      go (inr out) = inr (inr (record { each = λ k c serving. known.block e k c out ∙ h.each k c serving }))

  pub recovers_blocks : BlocksStand d at (after_move p move m)
  recovers_blocks = record {
    committed = same_committed d at m p move known.none st.committed;
    blocks = known.are;
    caches = λ r. update_cases IsCache m.cache p move.cache r (λ _. known.cache) (λ _. st.caches r);
    hands = λ r. hand_at r (cases_eq r p);
    left = left_stays;
    extents = λ e lt. extent_stays e (st.extents e lt);
  }
    where
      hand_at : (r : ℕ) → (r ≡ p) ⊎ (r ≡ p → ⊥) → HandKnows d at n.copies (n.cache r) (n.hand r)
      hand_at r (inl e) = subst (λ x. HandKnows d at n.copies (n.cache x) (n.hand x)) (sym e)
          (subst (λ c. HandKnows d at n.copies c (n.hand p)) (sym (update_same m.cache p move.cache)) (subst (HandKnows d at n.copies move.cache) (sym (update_same m.hand p move.hand)) known.knows))
      hand_at r (inr ne) =
          subst (λ c. HandKnows d at n.copies c (n.hand r)) (sym (update_other m.cache p move.cache r ne)) (subst (HandKnows d at n.copies (m.cache r)) (sym (update_other m.hand p move.hand r ne)) (hand_stays r ne (m.hand r) refl (st.hands r)))
