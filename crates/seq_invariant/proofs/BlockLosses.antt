-- A memory that fails takes its copies with it, and what is said of the others stays.
use Rattle.std.proofs.Common.{◌≡◌, ◌≢◌, ℕ, Bool, true, false, ◌==◌, length, inl, inr, refl, sym, ap, ◌∙◌}
use Rattle.std.proofs.lemmas.Bool.{cond_both, cond-false, ne_eqb, false≢true}
use Rattle.seq_words.specs.Blocks.{zero_block}
use Rattle.seq_words.specs.declared.description.MachineDesc.{MachineDesc}
use Rattle.seq_memory.specs.States.{is_in_service}
use Rattle.seq_memory.specs.declared.element.State.TheVariants.{Down}
use Rattle.seq_layout.specs.Places.{memory_of}
use Rattle.seq_layout.specs.Shapes.{shape_of}
use Rattle.seq_layout.specs.Copies.{Copies, serves}
use Rattle.seq_image.specs.Flushing.{KeepsCopies}
use Rattle.seq_turns.specs.declared.hand.Hand.{Hand}
use Rattle.seq_turns.specs.declared.hand.Hand.TheVariants as hand
use Rattle.seq_turns.specs.declared.hand.RecoveryAt.{RecoveryAt}
use Rattle.seq_turns.specs.declared.hand.RecoveryAt.TheVariants as recovery
use Rattle.seq_turns.specs.Machines.{Machine}
use Rattle.seq_turns.specs.Events.{lost_copies}
use Rattle.seq_turns.proofs.Functions.{update_same, update_other}
use Rattle.seq_invariant.specs.BlockAreas.{hand_area}
use Rattle.seq_invariant.specs.BlockWorks.{Committed}
use Rattle.seq_invariant.specs.BlockHands.{RecoveryKnows, HandKnows}
use Rattle.seq_invariant.specs.BlockLeft.{IsLeft}
use Rattle.seq_invariant.specs.BlockStanding.{AreBlocks, ExtentStands, BlocksStand}
use Rattle.seq_invariant.specs.BlockStops.{with_loss, LossesKeepBlocks}
use Rattle.seq_image.proofs.Blocks.{zero_full}
use Rattle.seq_invariant.proofs.BlockStays.{hand_kept}

module _ (d : MachineDesc) (p : Copies) (i : ℕ) where
  abbrev q : Copies
  q = lost_copies d i p

  -- a copy that serves then is on another memory, and served before
  elsewhere : (e : ℕ) (c : Bool) → serves (shape_of d) q e c ≡ true → memory_of d.memories e c ≢ i
  elsewhere e c serving here = false≢true (sym (ap is_in_service (ap q.state here ∙ update_same p.state i Down)) ∙ serving)

  pub served_still : (e : ℕ) (c : Bool) → serves (shape_of d) q e c ≡ true → serves (shape_of d) p e c ≡ true
  served_still e c serving = ap is_in_service (sym (update_other p.state i Down (memory_of d.memories e c) (elsewhere e c serving))) ∙ serving

  pub block_still : (e n : ℕ) (c : Bool) → serves (shape_of d) q e c ≡ true → q.block e n c ≡ p.block e n c
  block_still e n c serving = cond-false _ _ _ (ne_eqb (memory_of d.memories e c) i (elsewhere e c serving))

  keeps : (shadow : Bool) (area : ℕ → Bool) → KeepsCopies (shape_of d) p q shadow area
  keeps shadow area = record { served = λ e inside serving. served_still e shadow serving; block = λ e n inside serving. block_still e n shadow serving }

  blocks_left : AreBlocks d p → AreBlocks d q
  blocks_left is = record {
    whole = λ e n c. cond_both (memory_of d.memories e c == i) zero_block (p.block e n c) (λ b. length b.bytes ≡ 32) (λ _. zero_whole) (λ _. is.whole e n c);
    nowhere = λ e n c out. cond_both (memory_of d.memories e c == i) zero_block (p.block e n c) (λ b. b ≡ zero_block) (λ _. refl) (λ _. is.nowhere e n c out);
  }
    where
      zero_whole : length zero_block.bytes ≡ 32
      zero_whole = zero_full

module _ (d : MachineDesc) (at : Committed) (m : Machine) (i : ℕ) (none : (x : ℕ) (forward : Bool) → IsLeft d m x forward → ⊥) (none' : (x : ℕ) (forward : Bool) → IsLeft d (with_loss d m i) x forward → ⊥) (st : BlocksStand d at m) where
  abbrev n : Machine
  n = with_loss d m i

  recovers : (r : ℕ) (x : RecoveryAt) → m.hand r ≡ hand.Recovering x → RecoveryKnows d m.copies x → RecoveryKnows d n.copies x
  recovers r (recovery.Claimed x) is h = tt
  recovers r (recovery.Copying x) is h = absurd (none x.pid.0 x.forward (inr (record { inside = h.inside; processor = r; at = recovery.Copying x; hand = is; copies = (refl, refl) })))
  recovers r (recovery.Locks x) is h = tt
  recovers r (recovery.Closing x) is h = tt

  hand_stands : (r : ℕ) (h : Hand) → m.hand r ≡ h → HandKnows d at m.copies (m.cache r) h → HandKnows d at n.copies (m.cache r) h
  hand_stands r h e k = hand_kept d at m.copies n.copies (m.cache r) h (record { primaries = keeps d m.copies i false (hand_area d h); shadows = keeps d m.copies i true (hand_area d h) }) (λ x is. recovers r x (e ∙ is)) k

  extent_stands : (e : ℕ) → ExtentStands d at m e → ExtentStands d at n e
  extent_stands e (inl h) = inl (record { holder = h.holder; inside = h.inside })
  extent_stands e (inr (inl h)) = absurd (none h.process h.forward h.left)
  extent_stands e (inr (inr h)) = inr (inr (record { each = λ k c serving. block_still d m.copies i e k c serving ∙ h.each k c (served_still d m.copies i e c serving) }))

  pub loss_keeps : BlocksStand d at n
  loss_keeps = record {
    committed = record { run = st.committed.run; commits = st.committed.commits; reached = st.committed.reached; fit = st.committed.fit };
    blocks = blocks_left d m.copies i st.blocks;
    caches = st.caches;
    hands = λ r. hand_stands r (m.hand r) refl (st.hands r);
    left = λ x forward is. absurd (none' x forward is);
    extents = λ e lt. extent_stands e (st.extents e lt);
  }

pub losses_keep_blocks : LossesKeepBlocks
losses_keep_blocks d at m i none none' st = loss_keeps d at m i none none' st
