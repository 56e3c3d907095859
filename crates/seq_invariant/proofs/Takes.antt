-- What an event takes from the blocks: contexts of processes that are taken up, or whose locks are cleared, are those committed.
use Rattle.std.proofs.Common.{◌≡◌, inl, inr, ℕ, ◌<◌, ◌≤◌, Bool, true, length, ap, sym, ◌∙◌, subst}
use Rattle.std.proofs.lemmas.Bool.{false≢true}
use Rattle.seq_words.specs.Description.{IsDescription}
use Rattle.seq_words.specs.declared.description.MachineDesc.{MachineDesc}
use Rattle.seq_words.specs.declared.events.Event.{Event}
use Rattle.seq_words.specs.declared.events.Event.TheVariants as event
use Rattle.seq_layout.specs.Shapes.{shape_of}
use Rattle.seq_layout.specs.Copies.{first_block}
use Rattle.seq_process.specs.Contexts.{started}
use Rattle.seq_image.specs.Areas.{in_area, owned_by}
use Rattle.seq_image.specs.Starting.{TakesUp as TakenUp}
use Rattle.seq_image.proofs.TakenUp.{image_is_taken_up}
use Rattle.seq_turns.specs.declared.hand.Hand.TheVariants as hand
use Rattle.seq_turns.specs.declared.hand.RecoveryAt.{RecoveryAt}
use Rattle.seq_turns.specs.declared.hand.RecoveryAt.TheVariants as recovery
use Rattle.seq_recover.specs.declared.recovery.Recovery.{Recovery}
use Rattle.seq_recover.specs.declared.recovery.Locks as locks_stage
use Rattle.seq_turns.specs.Machines.{Machine}
use Rattle.seq_turns.specs.Reading.{context_of}
use Rattle.seq_turns.specs.Duties.{owner}
use Rattle.seq_stands.specs.Grips.{Stage, grip, way}
use Rattle.seq_stands.specs.Grips.Stage.{Holding, Recovering}
use Rattle.seq_stands.specs.Grips.Grip.{On}
use Rattle.seq_stands.specs.Words.{words_of, GripHolds}
use Rattle.seq_stands.specs.Standing.{Stands}
use Rattle.seq_stands.specs.Locks.{TakesUp, LocksStand}
use Rattle.seq_stands.proofs.Gripped.{Firm, all_recovered}
use Rattle.seq_stands.specs.LockOwners as locks
use Rattle.seq_stands.specs.FitHands.{ProcessFits}
use Rattle.seq_stands.specs.FitStanding as fits
use Rattle.seq_stands.proofs.FitContexts.{owner_is_process}
use Rattle.seq_invariant.specs.BlockApart.{owners_of}
use Rattle.seq_invariant.specs.BlockAreas.{hand_area}
use Rattle.seq_invariant.specs.BlockWorks.{Committed}
use Rattle.seq_invariant.specs.BlockLeft.{IsLeft, HasToCopy}
use Rattle.seq_invariant.specs.BlockStanding.{BlocksStand}
use Rattle.seq_invariant.specs.BlockTurns.{CanBeTakenUp}
use Rattle.seq_invariant.proofs.BlockOwners.{contexts_own}
use Rattle.seq_invariant.proofs.BlockSteps.{first_holds}
use Rattle.seq_invariant.proofs.BlockTurns.{contexts_are_committed}
use Rattle.seq_lines.proofs.Duties.{first_copies_are_read}
use Rattle.seq_invariant.proofs.BlockLines.{blocks_give_lines}
use Rattle.seq_invariant.proofs.Left.{deserted_word, gripped_is_alive, one_grips}
use Rattle.seq_invariant.proofs.Free.{can_be_taken_up}
use Rattle.seq_invariant.proofs.Claims.{claim_can}

module _ (d : MachineDesc) (at : Committed) (m : Machine) (described : IsDescription d) (stands : Stands d m) (lock_words : LocksStand d (owners_of at.state) m) (blocks : BlocksStand d at m) where
  -- a process whose locks are being cleared is at rest
  module _ (p : ℕ) (r : Recovery locks_stage.Locks) (e : m.hand p ≡ hand.Recovering (recovery.Locks r)) where
    abbrev stage : Stage
    stage = Holding (way r.forward)

    gripped : grip (m.hand p) ≡ On r.pid.0 (Holding (way r.forward))
    gripped = ap grip e

    there : r.pid.0 < length d.processes
    there = (subst (GripHolds (words_of d m) p) gripped (stands.words.grips p)).process

    alone : (x a : ℕ) → hand_area d (m.hand x) a ≡ true → Firm (m.hand x) r.pid.0 → ⊥
    alone x a is f =
        let one : p ≡ x = one_grips d m stands.words p x r.pid.0 stage f.stage (all_recovered d m stands.words p (recovery.Locks r) e) gripped f.gripped in
        false≢true (ap (λ h. hand_area d h a) (sym e ∙ ap m.hand one) ∙ is)

    kept : (forward : Bool) → IsLeft d m r.pid.0 forward → ⊥
    kept forward (inl h) = gripped_is_alive d m stands.words p r.pid.0 stage gripped (deserted_word d m stands.words r.pid.0 forward h)
    kept forward (inr h) = other h.at h.hand h.copies
      where
        other : (x : RecoveryAt) → m.hand h.processor ≡ hand.Recovering x → HasToCopy x r.pid.0 forward → ⊥
        other (recovery.Claimed y) i its =
            let one : p ≡ h.processor = one_grips d m stands.words p h.processor r.pid.0 stage (Recovering (way y.forward)) (all_recovered d m stands.words p (recovery.Locks r) e) gripped (ap grip i ∙ ap (λ z. On z (Recovering (way y.forward))) its.0) in
            let clash : hand.Recovering (recovery.Locks r) ≡ hand.Recovering (recovery.Claimed y) = sym e ∙ ap m.hand one ∙ i in
            let c : ⊥ = cc in c
        other (recovery.Copying y) i its =
            let one : p ≡ h.processor = one_grips d m stands.words p h.processor r.pid.0 stage (Holding (way y.forward)) (all_recovered d m stands.words p (recovery.Locks r) e) gripped (ap grip i ∙ ap (λ z. On z (Holding (way y.forward))) its.0) in
            let clash : hand.Recovering (recovery.Locks r) ≡ hand.Recovering (recovery.Copying y) = sym e ∙ ap m.hand one ∙ i in
            let c : ⊥ = cc in c
        other (recovery.Locks y) i its = absurd its
        other (recovery.Closing y) i its = absurd its

    cleared_can : CanBeTakenUp d at m.copies r.pid.0
    cleared_can = can_be_taken_up d at m described stands lock_words blocks r.pid.0 there alone kept

  takes_up : (p : ℕ) → TakesUp d (owners_of at.state) m p
  takes_up p = record {
    taken_up = λ q c e free live. contexts_own d at m.copies q described blocks.committed.reached (claim_can d m stands p q c e free at described lock_words blocks);
    cleared = λ r e. contexts_own d at m.copies r.pid.0 described blocks.committed.reached (cleared_can p r e);
  }

  pub takes_locks : (e : Event) → locks.Takes d (owners_of at.state) m e
  takes_locks (event.Processor p) = takes_up p.0
  takes_locks (event.Io i) = tt
  takes_locks (event.Input l byte) = tt
  takes_locks (event.Close l) = tt
  takes_locks (event.Fail x) = tt
  takes_locks (event.Repair x) = tt
  takes_locks (event.Upset p half reg mask) = tt
  takes_locks (event.Hangup l) = tt

  -- a process that can be taken up is within its bounds
  taken_fits : (q : ℕ) → CanBeTakenUp d at m.copies q → ProcessFits d (started (record { 0 = q }) (context_of d m.copies q))
  taken_fits q can =
      let up : TakenUp d at.state (first_block (shape_of d) m.copies) q (at.commits q) =
      image_is_taken_up d at.state at.commits (first_block (shape_of d) m.copies) q described blocks.committed.reached can.inside can.whole.block (first_holds (shape_of d) m.copies (in_area d q (owned_by at.state q)) _ can.served can.both) in
      subst (λ c. ProcessFits d (started (record { 0 = q }) c)) (sym (contexts_are_committed d at m.copies q described blocks.committed.reached can))
      (record { within = up.within; zeros = (up.context.zero, up.context.zero) })

  pub takes_bounds : (e : Event) → fits.Takes d m e
  takes_bounds (event.Processor p) = λ q c e free live. taken_fits q (claim_can d m stands p.0 q c e free at described lock_words blocks)
  takes_bounds (event.Io i) = record {
    writes = λ l below steady.
        let reads = first_copies_are_read d m.copies at.state at.commits l described blocks.committed.reached below ((blocks_give_lines d at m described stands blocks).steady (owner d l).0.0 (owner_is_process d l described below) steady) in
        subst (λ n. n ≤ 1048576) (sym reads.written) (blocks.committed.reached.line l).output;
  }
  takes_bounds (event.Input l byte) = tt
  takes_bounds (event.Close l) = tt
  takes_bounds (event.Fail x) = tt
  takes_bounds (event.Repair x) = tt
  takes_bounds (event.Upset p half reg mask) = tt
  takes_bounds (event.Hangup l) = tt
