-- A processor may take its turn where the machine fits.
use Rattle.std.proofs.Common.{◌≡◌, ℕ, ◌^◌, ◌<◌, Bool, true, false, not, length, Option, Some, None, inl, inr, refl, ap, sym, ◌∙◌, subst, arith}
use Rattle.std.specs.Prelude.{IsSome, unwrap_or}
use Rattle.std.proofs.lemmas.Bool.{cond-true, cond-false, and_parts, eq-eqb, cases_Bool, false≢true}
use Rattle.seq_words.specs.Description.{IsDescription}
use Rattle.seq_words.specs.declared.description.MachineDesc.{MachineDesc}
use Rattle.seq_memory.specs.States.{is_in_service, is_returning}
use Rattle.seq_memory.specs.declared.element.State.{State}
use Rattle.seq_memory.specs.declared.element.State.TheVariants.{InService, Down, Stale, Copying}
use Rattle.seq_layout.specs.Shapes.{Shape, shape_of}
use Rattle.seq_layout.specs.Units.{units_of}
use Rattle.seq_layout.specs.Copies.{Copies, serves, copies}
use Rattle.seq_ruling.proofs.Lowest.{is_lowest}
use Rattle.seq_status.specs.declared.status.Holder.{Holder}
use Rattle.seq_status.specs.declared.status.Status.{Status}
use Rattle.seq_status.specs.declared.status.Status.TheVariants.{Idle, Run, Pass1, Pass2, Back, Forward}
use Rattle.seq_status.specs.Words.{IsStatusWord, status_of}
use Rattle.seq_locks.specs.Turns.{is_taken}
use Rattle.seq_process.specs.declared.running.Running.{Running}
use Rattle.seq_turns.specs.declared.hand.RecoveryAt.{RecoveryAt}
use Rattle.seq_turns.specs.declared.hand.RecoveryAt.TheVariants as recovery
use Rattle.seq_turns.specs.declared.hand.Hand.{Hand}
use Rattle.seq_turns.specs.declared.hand.Hand.TheVariants as hand
use Rattle.seq_turns.specs.Machines.{Machine}
use Rattle.seq_turns.specs.Reading.{status_word, status_in, is_idle, ruling, is_copied, copied_memory}
use Rattle.seq_stands.specs.FitHands.{HandFits}
use Rattle.seq_stands.specs.Hands.{IsHand, IsRecoveryAt}
use Rattle.seq_stands.specs.Fit.{StateFits, StatesFit, RecoveryAtFits, HandHolds, Fit}
use Rattle.seq_stands.specs.FitNumbers.{HandBelow, NumbersFit}
use Rattle.seq_stands.proofs.FitGives.{fit_gives}
use Rattle.seq_reintegrate.specs.Needs.{CopyingNeeds}
use Rattle.seq_machine.specs.Needs.{NeedsOf, RecoveryNeeds}
use Rattle.seq_machine.specs.Plain.{machine_of, IsHardware}
use Rattle.seq_machine.specs.Starting.{no_outside}
use Rattle.seq_machine.specs.Processors.{RunNeeds, SeekNeeds, TurnNeeds, MayTurn}
use Rattle.seq_machine.specs.declared.hardware.Hardware.{Hardware}
use Rattle.seq_status.proofs.WordLaws.{words_are_written_back, words_of_the_format_are_read}
use Rattle.seq_machine.proofs.Given.{needs_given}
use Rattle.seq_machine.proofs.EventParts.{may_be_checked}

-- a status word of the format that says Idle is 0
idle_is_zero : (w : ℕ) → IsStatusWord w → is_idle (status_in w) ≡ true → w ≡ 0
idle_is_zero w format idle = found (status_of w) refl
  where
    is_zero : (s : Status) → status_of w ≡ Some s → is_idle s ≡ true → w ≡ 0
    is_zero Idle e t = sym (words_are_written_back w Idle e)
    is_zero (Run h) e t = absurd (false≢true t)
    is_zero (Pass1 h) e t = absurd (false≢true t)
    is_zero (Pass2 h) e t = absurd (false≢true t)
    is_zero (Back h) e t = absurd (false≢true t)
    is_zero (Forward h) e t = absurd (false≢true t)

    found : (o : Option Status) → status_of w ≡ o → w ≡ 0
    found (Some s) e = is_zero s e (subst (λ (x : Option Status). is_idle (unwrap_or x Idle) ≡ true) e idle)
    found None e = absurd (false≢true (subst (λ (x : Option Status). IsSome x) e ((words_of_the_format_are_read w).1 format)))

-- a process that rules itself free isn't taken at its primary
untaken_is : (d : MachineDesc) (p : Copies) (q : ℕ) → IsStatusWord (p.word q 0 false) → is_idle (ruling d p q) ≡ true → is_taken (shape_of d) p (status_word q) false ≡ false
untaken_is d p q format idle = elim (cases_Bool (serves (shape_of d) p q false)) [
  | inl up ↦
      let zero : p.word q 0 false ≡ 0 = idle_is_zero (p.word q 0 false) format (subst (λ (c : Bool). is_idle (status_in (p.word q 0 c)) ≡ true) (ap not up) idle) in
      cond-true _ _ _ up ∙ cond-true _ _ _ (eq-eqb (p.word q 0 false) 0 zero)
  | inr away ↦ cond-false _ _ _ away
]

module _ (d : MachineDesc) (m : Machine) (described : IsDescription d) (fits : Fit d m) (numbers : NumbersFit d m) (p : ℕ) (there : p < d.processors) where
  seek_needs : SeekNeeds d m.copies (m.scan p)
  seek_needs = record {
    words = (fit_gives d m described fits).memories.ruling;
    holders = (fit_gives d m described fits).memories.held;
    process = (fits.processors p there).scan;
    untaken = λ c i free. untaken_is d m.copies (m.scan p) (fits.words.status (m.scan p) false (fits.processors p there).scan).format (and_parts _ _ free).0;
  }

  run_needs : (r : Running) → HandFits d (hand.Running r) → HandBelow (2 ^ 47) (hand.Running r) → RunNeeds d m.copies r
  run_needs r bounds few = record {
    readable = (fit_gives d m described fits).memories.readable;
    within = bounds.0.within;
    saved = record { aligned = bounds.0.within.aligned; zeros = bounds.0.zeros; commits = few };
    live = bounds.1;
    named = λ t l. fits.words.locks t false l;
  }

  recovery_needs : (r : RecoveryAt) → IsRecoveryAt p (m.incarnation p) r → RecoveryAtFits d r → RecoveryNeeds d m.copies r
  recovery_needs (recovery.Claimed r) own holds = record {
    process = holds.process;
    incarnation = subst (λ (h : Holder). h.incarnation < 2 ^ 48) (sym own.holder) (let few = numbers.incarnations p there in omega (arith, few));
  }
  recovery_needs (recovery.Copying r) own holds = record { process = holds.process; cursor = holds.turns }
  recovery_needs (recovery.Locks r) own holds =
      let loads = (fit_gives d m described fits).memories.loads r.pid.0 holds.process in
      record { process = holds.process; cursor = holds.turns; context = record { served = loads.served; inside = loads.blocks } }
  recovery_needs (recovery.Closing r) own holds = record { process = holds.process }

  turn_needs : (h : Hand) → IsHand d p (m.incarnation p) h → HandHolds d (m.cache p).changes h → HandFits d h → HandBelow (2 ^ 47) h → NeedsOf d m.copies (m.cache p) h → TurnNeeds d m.copies (m.cache p) (m.scan p) h
  turn_needs hand.Down own holds bounds few needs = tt
  turn_needs hand.Seek own holds bounds few needs = seek_needs
  turn_needs (hand.Claiming q c) own holds bounds few needs = needs
  turn_needs (hand.Running r) own holds bounds few needs = run_needs r bounds few
  turn_needs (hand.Acquiring r t c) own holds bounds few needs = needs
  turn_needs (hand.Flushing r cause mask f) own holds bounds few needs = needs
  turn_needs (hand.Unlocking r cause mask l) own holds bounds few needs = needs
  turn_needs (hand.Leaving q l) own holds bounds few needs = needs
  turn_needs (hand.Recovering r) own holds bounds few needs = recovery_needs r own holds

  pub needs_there : TurnNeeds d m.copies (m.cache p) (m.scan p) (m.hand p)
  needs_there =
      let now = fits.processors p there in
      turn_needs (m.hand p) now.own now.holds now.bounds (numbers.hands p there) (needs_given d m described fits numbers p there)

-- a memory that is to be copied may be, since at most one isn't in service
copied_returns : (s : State) → is_copied s ≡ true → (is_returning s ≡ true) × (is_in_service s ≡ false)
copied_returns InService copied = absurd (false≢true copied)
copied_returns Down copied = absurd (false≢true copied)
copied_returns Stale copied = (refl, refl)
copied_returns (Copying next) copied = (refl, refl)

next_is : (d : MachineDesc) (i : ℕ) (s : State) → StateFits d i s → (n : ℕ) → s ≡ Copying n → n < length (units_of (shape_of d) i)
next_is d i s fits n is = subst (StateFits d i) is fits

copying_needs : (d : MachineDesc) (p : Copies) (i : ℕ) → StatesFit d p → copied_memory d p ≡ Some i → CopyingNeeds (shape_of d) p i
copying_needs d p i fits found =
    let lowest = is_lowest (λ j. is_copied (p.state j)) d.memories i found in
    let back = copied_returns (p.state i) lowest.passes in
    record {
      memory = lowest.within;
      returning = back.0;
      next = next_is d i (p.state i) (fits.next i lowest.within);
      others = λ j l other. elim (cases_Bool (is_in_service (p.state j))) [
        | inl serves ↦ serves
        | inr away ↦ absurd (other (fits.one_out j i l lowest.within away back.1))
      ];
    }

pub may_turn : (h : Hardware) (p : ℕ) → IsHardware h → Fit h.desc (machine_of h no_outside) → NumbersFit h.desc (machine_of h no_outside) → p < h.desc.processors → MayTurn h p
may_turn h p hardware fits numbers there =
    let m = machine_of h no_outside in
    record {
      processor = there;
      incarnation = let few = numbers.incarnations p there in omega (arith, few);
      copying = λ i found. subst (λ (s : Shape). CopyingNeeds s (copies h.layout h.memories) i) (sym hardware.layout) (copying_needs h.desc (copies h.layout h.memories) i fits.states found);
      checked = may_be_checked h.desc m hardware.described fits;
      needs = needs_there h.desc m hardware.described fits numbers p there;
    }
