-- Every turn of a processor, by its hand: what the hand and the cache hold after it.
use Rattle.std.proofs.Common.{◌≡◌, ℕ, suc, ◌+◌, ◌-◌, ◌*◌, ◌<◌, Bool, true, false, ◌==◌, nat_le, Option, Some, None, length, refl, ap, sym, ◌∙◌, subst, arith}
use Rattle.std.specs.Prelude.{sum}
use Rattle.std.proofs.lemmas.Bool.{cond_both, leb-false, eqb-false}
use Rattle.seq_words.specs.Description.{IsDescription}
use Rattle.seq_words.specs.declared.description.MachineDesc.{MachineDesc}
use Rattle.seq_layout.specs.Shapes.{blocks_of}
use Rattle.seq_kernel.specs.Bounds.{AreReadable}
use Rattle.seq_turns.specs.declared.hand.Hand.{Hand}
use Rattle.seq_turns.specs.declared.hand.Hand.TheVariants as hand
use Rattle.seq_recover.specs.declared.recovery.Recovery.{Recovery}
use Rattle.seq_recover.specs.declared.recovery.Locks as locks_stage
use Rattle.seq_turns.specs.declared.hand.RecoveryAt.{RecoveryAt}
use Rattle.seq_turns.specs.declared.hand.RecoveryAt.TheVariants as recovery
use Rattle.seq_turns.specs.Machines.{Machine, Move, Turn}
use Rattle.seq_turns.specs.Machines.Turn.{Moves, Looks, Copies_unit, Stops}
use Rattle.seq_turns.specs.Reading.{copied_memory, is_deserted, ruling as status_now}
use Rattle.seq_recover.specs.Reading.{recovered_blocks, left_from}
use Rattle.seq_recover.specs.Turns.{into_stage}
use Rattle.seq_turns.specs.Recoveries.{after_clearing, locks_cleared, recovery_move}
use Rattle.seq_turns.specs.Processors.{next_process, is_free, looks, deserted, seeks, someone_amid, copies_or_waits, seeks_or_copies, runs_or_copies, turn}
use Rattle.seq_turns.proofs.Functions.{lowest_passes}
use Rattle.seq_recover.proofs.LeftFrom.{left_passes}
use Rattle.seq_stands.specs.FitHands.{HandFits}
use Rattle.seq_stands.specs.FitBlocks.{BlocksFit, AreWhole}
use Rattle.seq_stands.specs.Fit.{RecoveryAtFits, HandHolds}
use Rattle.seq_stands.proofs.FitCounted.{few_recovered}
use Rattle.seq_stands.proofs.FitHeld.{MoveHolds, TurnHolds, ran, claimed, flushed, unlocked, left, taken_from}

module _ (d : MachineDesc) (described : IsDescription d) (m : Machine) (p : ℕ) (full : (m.cache p).capacity ≡ d.cache) (bytes : AreWhole (m.cache p).changes) (blocks : BlocksFit d m.copies) (readable : AreReadable d m.copies) (scan : m.scan p < length d.processes) where
  abbrev Leaves : Move → Type 0
  Leaves move = MoveHolds d described m p full bytes move

  abbrev pub Turns : Turn → Type 0
  Turns t = TurnHolds d described m p full bytes t

  -- the cache stays
  keeps : (move : Move) → move.cache ≡ m.cache p → HandHolds d (m.cache p).changes move.hand → Leaves move
  keeps move e holds = record {
    holds = subst (λ c. HandHolds d c.changes move.hand) (sym e) holds;
    capacity = ap (λ c. c.capacity) e ∙ full;
    whole = subst (λ c. AreWhole c.changes) (sym e) bytes;
  }

  copied : (h : Hand) → m.hand p ≡ h → HandHolds d (m.cache p).changes h → (i : ℕ) → copied_memory d m.copies ≡ Some i → (o : Option ℕ) → Turns (copies_or_waits m p i o)
  copied h e holds i there (Some r) = record { holds = subst (HandHolds d (m.cache p).changes) (sym e) holds; capacity = full; whole = bytes }
  copied h e holds i there None = there

  looked : m.hand p ≡ hand.Seek → Leaves (looks d m p (m.scan p))
  looked e = cond_both (is_free d m (m.scan p)) _ _ Leaves (λ _. record { holds = scan; capacity = full; whole = bytes })
      (λ _. record { holds = subst (HandHolds d (m.cache p).changes) (sym e) tt; capacity = full; whole = bytes })

  sought : m.hand p ≡ hand.Seek → (o : Option ℕ) → deserted d m ≡ o → Turns (seeks d m p o)
  sought e (Some q) is = record {
    holds = record { process = (lowest_passes (λ q. is_deserted m.incarnation (status_now d m.copies q)) (length d.processes) q is).1; turns = omega arith };
    capacity = full;
    whole = bytes;
  }
  sought e None is = (looked e, next_scan)
    where
      next_scan : next_process d (m.scan p) < length d.processes
      next_scan = cond_both (m.scan p + 1 == length d.processes) 0 (m.scan p + 1) (λ x. x < length d.processes) (λ _. omega (arith, described.processes.low_at))
          (λ f. let other = eqb-false (m.scan p + 1) (length d.processes) f in omega (arith, other, scan))

  cleared : (r : Recovery locks_stage.Locks) (k : ℕ) (o : Option ℕ) → r.pid.0 < length d.processes → k < 2 * length d.segments → RecoveryAtFits d (after_clearing r k o)
  cleared r k (Some j) there few = record { process = there; turns = omega (arith, few) }
  cleared r k None there few = record { process = there; turns = omega arith }

  recovered : (r : RecoveryAt) → RecoveryAtFits d r → Leaves (recovery_move d m p r)
  recovered (recovery.Claimed r) at = cond_both (r.cursor == 0) _ _ Leaves
      (λ _. record { holds = record { process = at.process; turns = omega arith }; capacity = full; whole = bytes }) (λ _. record { holds = record { process = at.process; turns = omega arith }; capacity = full; whole = bytes })
  recovered (recovery.Copying r) at = record {
    holds = cond_both (nat_le (length (recovered_blocks d m.copies r.pid.0)) (r.cursor + 1)) (recovery.Locks (into_stage r (record {}))) (recovery.Copying (record r { cursor = r.cursor + 1 })) (RecoveryAtFits d)
        (λ _. record { process = at.process; turns = omega arith })
        (λ f. let more = leb-false (length (recovered_blocks d m.copies r.pid.0)) (r.cursor + 1) f in record { process = at.process; turns = omega (arith, more, few_recovered d m.copies r.pid.0 at.process) });
    capacity = full;
    whole = bytes;
  }
  recovered (recovery.Locks r) at = go (left_from d m.copies r.pid.0 r.cursor) refl
    where
      go : (o : Option ℕ) → left_from d m.copies r.pid.0 r.cursor ≡ o → Leaves (locks_cleared d m p r o)
      go (Some k) e = record { holds = cleared r k (left_from d m.copies r.pid.0 (k + 1)) at.process (left_passes d m.copies r.pid.0 r.cursor k e).2; capacity = full; whole = bytes }
      go None e = record { holds = record { process = at.process; turns = omega arith }; capacity = full; whole = bytes }
  recovered (recovery.Closing r) at = cond_both (r.cursor == 0) _ _ Leaves
      (λ _. record { holds = record { process = at.process; turns = omega arith }; capacity = full; whole = bytes }) (λ _. record { holds = tt; capacity = full; whole = bytes })

  pub turned_holds : (h : Hand) → m.hand p ≡ h → HandFits d h → HandHolds d (m.cache p).changes h → Turns (turn d m p h)
  turned_holds hand.Down e fits holds = record { holds = subst (HandHolds d (m.cache p).changes) (sym e) tt; capacity = full; whole = bytes }
  turned_holds hand.Seek e fits holds = go (copied_memory d m.copies) refl
    where
      go : (o : Option ℕ) → copied_memory d m.copies ≡ o → Turns (seeks_or_copies d m p o)
      go (Some i) is = copied hand.Seek e tt i is (someone_amid d m)
      go None is = sought e (deserted d m) refl
  turned_holds (hand.Claiming q c) e fits holds = taken_from d described m p full bytes q c blocks holds
  turned_holds (hand.Running r) e fits holds = go (copied_memory d m.copies) refl
    where
      go : (o : Option ℕ) → copied_memory d m.copies ≡ o → Turns (runs_or_copies d m p r o)
      go (Some i) is = copied (hand.Running r) e holds i is (someone_amid d m)
      go None is = ran d described m p full bytes r fits.0 holds.0 fits.1 holds.1 readable blocks.whole
  turned_holds (hand.Acquiring r t c) e fits holds = claimed d described m p full bytes r fits.0 holds.0 fits.1 holds.1 t c fits.2.inside fits.2.new fits.2.left
  turned_holds (hand.Flushing r c mask f) e fits holds = flushed d described m p full bytes r fits.0 holds.0 c mask f holds.1 holds.2
  turned_holds (hand.Unlocking r c mask l) e fits holds = unlocked d described m p full bytes r fits.0 holds.0 c mask l holds.1
  turned_holds (hand.Leaving q l) e fits holds = left d described m p full bytes q l holds
  turned_holds (hand.Recovering r) e fits holds = recovered r holds
