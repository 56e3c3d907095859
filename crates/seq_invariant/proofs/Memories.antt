-- A memory fails while no process awaits recovery, and one that is down is repaired.
use Rattle.std.proofs.Common.{◌≡◌, ◌⊎◌, inl, inr, ℕ, ◌<◌, Bool, true, false, ◌||◌, is_some, length, refl, ap, sym, ◌∙◌, subst}
use Rattle.std.proofs.lemmas.Bool.{cases_eq, cond-true, or_parts, true≢false, false≢true}
use Rattle.seq_words.specs.declared.description.MachineDesc.{MachineDesc}
use Rattle.seq_memory.specs.States.{is_in_service}
use Rattle.seq_memory.specs.declared.element.State.TheVariants.{Down}
use Rattle.seq_layout.specs.Places.{memory_of}
use Rattle.seq_layout.specs.Shapes.{shape_of}
use Rattle.seq_layout.specs.Copies.{Copies}
use Rattle.seq_image.specs.Flushing.{KeepsCopies}
use Rattle.seq_turns.specs.declared.hand.Hand.{Hand}
use Rattle.seq_turns.specs.declared.hand.Hand.TheVariants as hand
use Rattle.seq_turns.specs.declared.hand.RecoveryAt.{RecoveryAt}
use Rattle.seq_turns.specs.declared.hand.RecoveryAt.TheVariants as recovery
use Rattle.seq_turns.specs.Functions.{update}
use Rattle.seq_turns.specs.Machines.{Machine}
use Rattle.seq_turns.specs.Reading.{ruling as status_now, is_deserted, is_recovered, awaits}
use Rattle.seq_turns.specs.Events.{is_back, another_out, awaiting}
use Rattle.seq_turns.proofs.Functions.{update_same, update_other, lowest_none}
use Rattle.seq_stands.specs.Grips.{grip, word, way}
use Rattle.seq_stands.specs.Grips.Stage.{Holding, Recovering}
use Rattle.seq_stands.specs.Grips.Grip.{On}
use Rattle.seq_stands.specs.Words.{words_of, Grips, GripHolds, WordsStand}
use Rattle.seq_stands.proofs.Gripped.{all_recovered}
use Rattle.seq_stands.proofs.Others.{none_of}
use Rattle.seq_stands.proofs.Readings.{recovered_says}
use Rattle.seq_stands.proofs.Seeks.{way_is}
use Rattle.seq_invariant.specs.BlockAreas.{hand_area}
use Rattle.seq_invariant.specs.BlockWorks.{Committed}
use Rattle.seq_invariant.specs.BlockHands.{RecoveryKnows, HandKnows}
use Rattle.seq_invariant.specs.BlockLeft.{HasToCopy, IsLeft}
use Rattle.seq_invariant.specs.BlockStanding.{ExtentStands, BlocksStand}
use Rattle.seq_invariant.specs.BlockStops.{with_loss}
use Rattle.seq_invariant.proofs.BlockLosses.{losses_keep_blocks}
use Rattle.seq_invariant.proofs.BlockStays.{hand_kept}
use Rattle.seq_invariant.proofs.Copied.{none_left_out}

module _ (d : MachineDesc) (m : Machine) (st : WordsStand (words_of d m)) where
  -- a process that was left awaits recovery
  left_awaits : (q : ℕ) (forward : Bool) → IsLeft d m q forward → awaits m.incarnation (status_now d m.copies q) ≡ true
  left_awaits q forward (inl h) = either (is_deserted m.incarnation (status_now d m.copies q)) (is_recovered (status_now d m.copies q)) h.deserted
    where
      either : (a b : Bool) → a ≡ true → (a || b) ≡ true
      either true b e = refl
      either false b e = absurd (false≢true e)
  left_awaits q forward (inr h) = go h.at h.hand h.copies
    where
      either : (a b : Bool) → b ≡ true → (a || b) ≡ true
      either true b e = refl
      either false b e = e

      says : (x : RecoveryAt) (f : Bool) → m.hand h.processor ≡ hand.Recovering x → ((words_of d m).view q).word1 ≡ word (way f) h.processor (m.incarnation h.processor) → h.processor < 256 → awaits m.incarnation (status_now d m.copies q) ≡ true
      says x f e w small = either (is_deserted m.incarnation (status_now d m.copies q)) (is_recovered (status_now d m.copies q))
          (recovered_says d m.copies q (way f) h.processor (m.incarnation h.processor) (st.served q) small (cond-true _ _ _ (all_recovered d m st h.processor x e q).0 ∙ w) (way_is f))

      go : (x : RecoveryAt) → m.hand h.processor ≡ hand.Recovering x → HasToCopy x q forward → awaits m.incarnation (status_now d m.copies q) ≡ true
      go (recovery.Claimed r) e its =
          let g : Grips (words_of d m) h.processor q (Recovering (way r.forward)) = subst (GripHolds (words_of d m) h.processor) (ap grip e ∙ ap (λ y. On y (Recovering (way r.forward))) its.0) (st.grips h.processor) in
          says (recovery.Claimed r) r.forward e g.claims.2 g.processor
      go (recovery.Copying r) e its =
          let g : Grips (words_of d m) h.processor q (Holding (way r.forward)) = subst (GripHolds (words_of d m) h.processor) (ap grip e ∙ ap (λ y. On y (Holding (way r.forward))) its.0) (st.grips h.processor) in
          says (recovery.Copying r) r.forward e (g.claims.0 (all_recovered d m st h.processor (recovery.Copying r) e q).0) g.processor
      go (recovery.Locks r) e its = absurd its
      go (recovery.Closing r) e its = absurd its

  none_awaits : is_some (awaiting d m) ≡ false → (q : ℕ) (forward : Bool) → IsLeft d m q forward → ⊥
  none_awaits none q forward is = true≢false (sym (left_awaits q forward is) ∙ lowest_none (λ x. awaits m.incarnation (status_now d m.copies x)) (length d.processes) (none_of (awaiting d m) none) q (there is))
    where
      there : IsLeft d m q forward → q < length d.processes
      there (inl h) = h.inside
      there (inr h) = h.inside

  pub lost_blocks : (at : Committed) (i : ℕ) → i < d.memories → (is_some (another_out d m i) || is_some (awaiting d m)) ≡ false → WordsStand (words_of d (with_loss d m i)) → BlocksStand d at m → BlocksStand d at (with_loss d m i)
  lost_blocks at i inside check st' blocks = losses_keep_blocks d at m i (none_awaits (or_parts (is_some (another_out d m i)) (is_some (awaiting d m)) check).1)
      (none_left_out d (with_loss d m i) st' i inside (ap is_in_service (update_same m.copies.state i Down))) blocks

-- A memory that is down comes back, and isn't in service yet.
module _ (d : MachineDesc) (at : Committed) (m : Machine) (i : ℕ) (inside : i < d.memories) (down : m.copies.state i ≡ Down) (st : WordsStand (words_of d m)) (blocks : BlocksStand d at m) where
  abbrev now : Copies
  now = record m.copies { state = update m.copies.state i (is_back (m.copies.state i)) }

  abbrev n : Machine
  n = record m { copies = now }

  still : (k : ℕ) → is_in_service (update m.copies.state i (is_back (m.copies.state i)) k) ≡ is_in_service (m.copies.state k)
  still k = go (cases_eq k i)
    where
      go : (k ≡ i) ⊎ (k ≡ i → ⊥) → is_in_service (update m.copies.state i (is_back (m.copies.state i)) k) ≡ is_in_service (m.copies.state k)
      go (inl e) = ap (λ x. is_in_service (update m.copies.state i (is_back (m.copies.state i)) x)) e ∙ ap is_in_service (update_same m.copies.state i (is_back (m.copies.state i)) ∙ ap is_back down) ∙ sym (ap is_in_service (ap m.copies.state e ∙ down))
      go (inr ne) = ap is_in_service (update_other m.copies.state i (is_back (m.copies.state i)) k ne)

  out : is_in_service (m.copies.state i) ≡ false
  out = ap is_in_service down

  none : (q : ℕ) (forward : Bool) → IsLeft d m q forward → ⊥
  none = none_left_out d m st i inside out

  none_then : WordsStand (words_of d n) → (q : ℕ) (forward : Bool) → IsLeft d n q forward → ⊥
  none_then st' = none_left_out d n st' i inside (still i ∙ out)

  keeps : (shadow : Bool) (area : ℕ → Bool) → KeepsCopies (shape_of d) m.copies now shadow area
  keeps shadow area = record { served = λ e is serving. sym (still (memory_of d.memories e shadow)) ∙ serving; block = λ e k is serving. refl }

  recovers : (r : ℕ) (x : RecoveryAt) → m.hand r ≡ hand.Recovering x → RecoveryKnows d m.copies x → RecoveryKnows d now x
  recovers r (recovery.Claimed x) is h = tt
  recovers r (recovery.Copying x) is h = absurd (none x.pid.0 x.forward (inr (record { inside = h.inside; processor = r; at = recovery.Copying x; hand = is; copies = (refl, refl) })))
  recovers r (recovery.Locks x) is h = tt
  recovers r (recovery.Closing x) is h = tt

  hand_stands : (r : ℕ) (h : Hand) → m.hand r ≡ h → HandKnows d at m.copies (m.cache r) h → HandKnows d at now (m.cache r) h
  hand_stands r h e k = hand_kept d at m.copies now (m.cache r) h (record { primaries = keeps false (hand_area d h); shadows = keeps true (hand_area d h) }) (λ x is. recovers r x (e ∙ is)) k

  extent : (e : ℕ) → ExtentStands d at m e → ExtentStands d at n e
  extent e (inl h) = inl (record { holder = h.holder; inside = h.inside })
  extent e (inr (inl h)) = absurd (none h.process h.forward h.left)
  extent e (inr (inr h)) = inr (inr (record { each = λ k c serving. h.each k c (sym (still (memory_of d.memories e c)) ∙ serving) }))

  pub back_blocks : WordsStand (words_of d (record m { copies = record m.copies { state = update m.copies.state i (is_back (m.copies.state i)) } })) → BlocksStand d at (record m { copies = record m.copies { state = update m.copies.state i (is_back (m.copies.state i)) } })
  back_blocks st' = record {
    committed = record { run = blocks.committed.run; commits = blocks.committed.commits; reached = blocks.committed.reached; fit = blocks.committed.fit };
    blocks = record { whole = blocks.blocks.whole; nowhere = blocks.blocks.nowhere };
    caches = blocks.caches;
    hands = λ r. hand_stands r (m.hand r) refl (blocks.hands r);
    left = λ q forward is. absurd (none_then st' q forward is);
    extents = λ e lt. extent e (blocks.extents e lt);
  }
