-- What a processor's own turn leaves in its hand, and that other events leave it.
use Rattle.std.proofs.Common.{◌≡◌, ◌≢◌, ℕ, ◌-◌, true, false, ◌==◌, nat_le, Option, Some, None, refl, ap, sym, ◌∙◌, subst}
use Rattle.std.proofs.lemmas.Bool.{cond_both, eq-eqb, eqb-true, true≢false, false≢true}
use Rattle.seq_words.specs.Masks.{has_bit}
use Rattle.seq_words.specs.declared.description.MachineDesc.{MachineDesc}
use Rattle.seq_words.specs.declared.events.Event.{Event}
use Rattle.seq_words.specs.declared.events.Event.TheVariants as event
use Rattle.seq_words.specs.declared.kinds.Element.TheVariants as element
use Rattle.seq_words.specs.declared.names.Pe.{Pe}
use Rattle.seq_words.specs.declared.names.Seg.{Seg}
use Rattle.seq_flat.specs.declared.state.End.{End}
use Rattle.seq_flat.specs.declared.state.End.TheVariants.{Live, Exited, Trapped}
use Rattle.seq_pair.specs.declared.halves.Pair.{Pair}
use Rattle.seq_layout.specs.Shapes.{shape_of}
use Rattle.seq_process.specs.declared.running.Running.{Running}
use Rattle.seq_process.specs.Contexts.{started, end_of}
use Rattle.seq_cache.specs.Changes.{Changes}
use Rattle.seq_locks.specs.Turns.{is_taken, word_at}
use Rattle.seq_kernel.specs.Calls.{granted}
use Rattle.seq_kernel.specs.Steps.{step_of}
use Rattle.seq_kernel.specs.declared.outcomes.Outcome.{Outcome}
use Rattle.seq_kernel.specs.declared.outcomes.Outcome.TheVariants as outcome
use Rattle.seq_kernel.specs.declared.outcomes.Cause.{Cause}
use Rattle.seq_kernel.specs.declared.outcomes.Cause.TheVariants as cause
use Rattle.seq_kernel.specs.declared.outcomes.Reason.TheVariants.{Lock}
use Rattle.seq_kernel.specs.declared.outcomes.Note.TheVariants.{Found}
use Rattle.seq_turns.specs.declared.hand.Hand.{Hand}
use Rattle.seq_turns.specs.declared.hand.Hand.TheVariants as hand
use Rattle.seq_turns.specs.declared.hand.FlushAt.{FlushAt}
use Rattle.seq_turns.specs.declared.hand.FlushAt.TheVariants as flush
use Rattle.seq_turns.specs.declared.hand.ReleaseAt.TheVariants as release
use Rattle.seq_turns.specs.declared.hand.RecoveryAt.{RecoveryAt}
use Rattle.seq_turns.specs.declared.hand.RecoveryAt.TheVariants as recovery
use Rattle.seq_turns.specs.Functions.{lowest, update}
use Rattle.seq_turns.specs.Machines.{Machine, Move, Turn, idles}
use Rattle.seq_turns.specs.Machines.Turn.{Moves, Looks, Copies_unit, Stops}
use Rattle.seq_turns.specs.Reading.{lock_word, context_of, copied_memory}
use Rattle.seq_turns.specs.Causes as causes
use Rattle.seq_turns.specs.Causes.{after_releases, release_next, follows, agree, flushes, finds}
use Rattle.seq_turns.specs.Operations.{taken_up, less, unit_count, flush_move}
use Rattle.seq_recover.specs.Reading.{left_from}
use Rattle.seq_turns.specs.Recoveries.{recovery_move, locks_cleared}
use Rattle.seq_turns.specs.Processors.{is_free, deserted, seeks, acquisition, after_step, runs, someone_amid, copies_or_waits, seeks_or_copies, runs_or_copies, turn}
use Rattle.seq_turns.specs.Duties.{rests}
use Rattle.seq_turns.specs.Allowed.{Allowed}
use Rattle.seq_turns.specs.Events.{is_down, comes_back, strikes, after_turn, happens}
use Rattle.seq_turns.proofs.Functions.{update_same, update_other}
use Rattle.seq_schedule.specs.Outs.{processor, is_turn_of, fails, repairs, upsets}

-- What is said of a hand: of the pair that it runs, of a recovery, of one that has stopped; of all others nothing.
abbrev pub Says : (Pair → Type 0) → Type 0 → Type 0 → Hand → Type 0
Says Runs Recovers Stopped hand.Down = Stopped
Says Runs Recovers Stopped hand.Seek = Unit {0}
Says Runs Recovers Stopped (hand.Claiming q c) = Unit {0}
Says Runs Recovers Stopped (hand.Running r) = Runs r.pair
Says Runs Recovers Stopped (hand.Acquiring r t c) = Runs r.pair
Says Runs Recovers Stopped (hand.Flushing r why mask f) = Runs r.pair
Says Runs Recovers Stopped (hand.Unlocking r why mask l) = Runs r.pair
Says Runs Recovers Stopped (hand.Leaving q l) = Unit {0}
Says Runs Recovers Stopped (hand.Recovering x) = Recovers

-- and of that which a turn leaves
abbrev pub TurnSays : (Pair → Type 0) → Type 0 → Type 0 → Turn → Type 0
TurnSays Runs Recovers Stopped (Moves move) = Says Runs Recovers Stopped move.hand
TurnSays Runs Recovers Stopped (Looks next move) = Says Runs Recovers Stopped move.hand
TurnSays Runs Recovers Stopped (Copies_unit i) = Unit {0}
TurnSays Runs Recovers Stopped Stops = Stopped

-- It lasts through a turn of processor p: through steps and grants, of a process that is taken up, where a recovery begins, and where
-- halves differ.
pub record Lasts (d : MachineDesc) (m : Machine) (p : ℕ) (Runs : Pair → Type 0) (Recovers Stopped : Type 0) : Type 0 where
  pub steps : (r : Running) → Runs r.pair → Runs (step_of d m.copies r (m.cache p)).running.pair
  pub grants : (r : Running) (t : ℕ) → Runs r.pair → Runs (granted r t).pair
  pub starts : (q : ℕ) → Runs (started (record { 0 = q }) (context_of d m.copies q)).pair
  pub begins : (q : ℕ) → deserted d m ≡ Some q → Recovers
  pub differs : (pair : Pair) → Runs pair → agree pair ≡ false → Stopped
  pub diverges : (r : Running) → Runs r.pair → (step_of d m.copies r (m.cache p)).outcome ≡ outcome.Diverged → Stopped

module _ (d : MachineDesc) (m : Machine) (p : ℕ) (Runs : Pair → Type 0) (Recovers Stopped : Type 0) (lasts : Lasts d m p Runs Recovers Stopped) where
  abbrev Of : Hand → Type 0
  Of h = Says Runs Recovers Stopped h

  abbrev MoveOf : Move → Type 0
  MoveOf move = Says Runs Recovers Stopped move.hand

  abbrev TurnOf : Turn → Type 0
  TurnOf t = TurnSays Runs Recovers Stopped t

  released : (r : Running) (why : Cause) → Runs r.pair → Of (after_releases r why)
  released r (cause.Release segment) is = is
  released r cause.Exit is = tt
  released r cause.Trap is = tt
  released r cause.Commit is = is
  released r cause.Yield is = tt
  released r (cause.Wait reason) is = tt
  released r cause.Room is = is
  released r cause.Quantum is = tt

  followed : (r : Running) (why : Cause) (mask : ℕ) → Runs r.pair → Of (follows d r why mask)
  followed r why mask is = next (lowest (has_bit mask) 16)
    where
      next : (o : Option ℕ) → Of (release_next d r why mask o)
      next (Some t) = is
      next None = released r why is

  found : (r : Running) (cache : Changes) (why : Cause) (mask : ℕ) → Runs r.pair → TurnOf (finds d m p r cache why mask)
  found r cache why mask is = cond_both (r.steps == 0) _ _ TurnOf (λ _. followed r why mask is)
      (λ _. cond_both (agree r.pair) (Moves (record (idles m p) { hand = flushes m p r why mask; cache = cache; note = Found r.pid why })) Stops TurnOf (λ _. is) (λ f. lasts.differs r.pair is f))

  acquired : (r : Running) (t : Seg) → Runs r.pair → TurnOf (acquisition d m p r t)
  acquired r t is = cond_both (is_taken (shape_of d) m.copies (lock_word d t.0) false) _ _ TurnOf
      (λ _. found r (m.cache p) (cause.Wait (Lock t (record { 0 = word_at m.copies (lock_word d t.0) false - 1 }))) 0 is) (λ _. is)

  stepped : (r : Running) (o : Outcome) → (step_of d m.copies r (m.cache p)).outcome ≡ o → Runs r.pair → TurnOf (after_step d m p r (step_of d m.copies r (m.cache p)) o)
  stepped r outcome.Done e is = lasts.steps r is
  stepped r (outcome.Claim s) e is = acquired r s is
  stepped r (outcome.NeedsFlush why) e is = found (step_of d m.copies r (m.cache p)).running (step_of d m.copies r (m.cache p)).cache why (causes.released r.held why) (lasts.steps r is)
  stepped r (outcome.Waits reason) e is = found r (m.cache p) (cause.Wait reason) 0 is
  stepped r outcome.Diverged e is = lasts.diverges r is e

  ran : (r : Running) → Runs r.pair → TurnOf (runs d m p r)
  ran r is = cond_both (nat_le d.quantum r.used) _ _ TurnOf (λ _. found r (m.cache p) cause.Quantum 0 is) (λ _. stepped r (step_of d m.copies r (m.cache p)).outcome refl is)

  waited : (i : ℕ) (o : Option ℕ) → Of (m.hand p) → TurnOf (copies_or_waits m p i o)
  waited i (Some r) here = here
  waited i None here = tt

  sought : (o : Option ℕ) → deserted d m ≡ o → Of (m.hand p) → TurnOf (seeks d m p o)
  sought (Some q) e here = lasts.begins q e
  sought None e here = cond_both (is_free d m (m.scan p)) _ _ MoveOf (λ _. tt) (λ _. here)

  taken : (q : ℕ) (end : End) → Of (taken_up d m q end)
  taken q Live = lasts.starts q
  taken q (Exited code) = tt
  taken q (Trapped code pc) = tt

  flushed : (r : Running) (why : Cause) (mask : ℕ) (f : FlushAt) → Runs r.pair → MoveOf (flush_move d m p r why mask f)
  flushed r why mask (flush.Mark f) is = cond_both (f.cursor == 0) _ _ MoveOf (λ _. is) (λ _. is)
  flushed r why mask (flush.First f) is = cond_both (nat_le (unit_count m p f) f.cursor) _ _ MoveOf (λ _. is) (λ _. is)
  flushed r why mask (flush.Second f) is = cond_both (f.cursor == 0) _ _ MoveOf (λ _. is) (λ _. is)
  flushed r why mask (flush.Close f) is = cond_both (f.cursor == 0) _ _ MoveOf (λ _. is) (λ _. followed r why mask is)

  recovered : (x : RecoveryAt) → Recovers → MoveOf (recovery_move d m p x)
  recovered (recovery.Claimed r) is = cond_both (r.cursor == 0) _ _ MoveOf (λ _. is) (λ _. is)
  recovered (recovery.Copying r) is = is
  recovered (recovery.Locks r) is = go (left_from d m.copies r.pid.0 r.cursor)
    where
      go : (o : Option ℕ) → MoveOf (locks_cleared d m p r o)
      go (Some k) = is
      go None = is
  recovered (recovery.Closing r) is = cond_both (r.cursor == 0) _ _ MoveOf (λ _. is) (λ _. tt)

  pub turn_says : (h : Hand) → Of (m.hand p) → Of h → TurnOf (turn d m p h)
  turn_says hand.Down here is = here
  turn_says hand.Seek here is = go (copied_memory d m.copies)
    where
      go : (o : Option ℕ) → TurnOf (seeks_or_copies d m p o)
      go (Some i) = waited i (someone_amid d m) here
      go None = sought (deserted d m) refl here
  turn_says (hand.Claiming q c) here is = cond_both (is_taken (shape_of d) m.copies c.at true) _ _ MoveOf (λ _. tt) (λ _. taken q.0 (end_of (context_of d m.copies q.0)))
  turn_says (hand.Running r) here is = go (copied_memory d m.copies)
    where
      go : (o : Option ℕ) → TurnOf (runs_or_copies d m p r o)
      go (Some i) = waited i (someone_amid d m) here
      go None = ran r is
  turn_says (hand.Acquiring r t c) here is = cond_both (is_taken (shape_of d) m.copies c.at true) _ _ TurnOf
      (λ _. found r (m.cache p) (cause.Wait (Lock t (record { 0 = word_at m.copies c.at true - 1 }))) 0 is) (λ _. lasts.grants r t.0 is)
  turn_says (hand.Flushing r why mask f) here is = flushed r why mask f is
  turn_says (hand.Unlocking r why mask (release.Shadow l)) here is = is
  turn_says (hand.Unlocking r why mask (release.Primary l)) here is = followed r why (less d mask l.at) is
  turn_says (hand.Leaving q (release.Shadow l)) here is = tt
  turn_says (hand.Leaving q (release.Primary l)) here is = tt
  turn_says (hand.Recovering x) here is = recovered x is

  of_turn : (t : Turn) → TurnOf t → Of (m.hand p) → Of ((after_turn d m p t).hand p)
  of_turn (Moves move) is here = subst Of (sym (update_same m.hand p move.hand)) is
  of_turn (Looks next move) is here = subst Of (sym (update_same m.hand p move.hand)) is
  of_turn (Copies_unit i) is here = here
  of_turn Stops is here = subst Of (sym (update_same m.hand p hand.Down)) is

  -- so it is said after the turn
  pub own_turn : Of (m.hand p) → Of ((after_turn d m p (turn d m p (m.hand p))).hand p)
  own_turn is = of_turn (turn d m p (m.hand p)) (turn_says (m.hand p) is is) is

-- a turn of the processor is made by it
own_event : (x : Event) (p : ℕ) → is_turn_of (processor p) x ≡ true → (q : Pe) × (x ≡ event.Processor q) × (q.0 ≡ p)
own_event (event.Processor q) p own = (q, refl, sym (eqb-true p q.0 own))
own_event (event.Io i) p own = absurd (false≢true own)
own_event (event.Input l byte) p own = absurd (false≢true own)
own_event (event.Close l) p own = absurd (false≢true own)
own_event (event.Fail e) p own = absurd (false≢true own)
own_event (event.Repair e) p own = absurd (false≢true own)
own_event (event.Upset q half reg mask) p own = absurd (false≢true own)
own_event (event.Hangup l) p own = absurd (false≢true own)

module _ (d : MachineDesc) (m : Machine) (p : ℕ) where
  pub own_happens : (x : Event) → is_turn_of (processor p) x ≡ true → happens d m x ≡ after_turn d m p (turn d m p (m.hand p))
  own_happens x own = let o = own_event x p own in ap (happens d m) o.1 ∙ ap (λ k. after_turn d m k (turn d m k (m.hand k))) o.2

  of_other : (q : ℕ) (t : Turn) → p ≢ q → (after_turn d m q t).hand p ≡ m.hand p
  of_other q (Moves move) ne = update_other m.hand q move.hand p ne
  of_other q (Looks next move) ne = update_other m.hand q move.hand p ne
  of_other q (Copies_unit i) ne = refl
  of_other q Stops ne = update_other m.hand q hand.Down p ne

  differ : (q : ℕ) → (p == q) ≡ false → p ≢ q
  differ q f e = true≢false (sym (eq-eqb p q e) ∙ f)

  -- what is no turn of the processor, and doesn't stop, mend or strike it, leaves its hand
  pub elsewhere : (x : Event) → is_turn_of (processor p) x ≡ false → fails (processor p) x ≡ false → repairs (processor p) x ≡ false → upsets (processor p) x ≡ false → (happens d m x).hand p ≡ m.hand p
  elsewhere (event.Processor q) own fail repair upset = of_other q.0 (turn d m q.0 (m.hand q.0)) (differ q.0 own)
  elsewhere (event.Io i) own fail repair upset = cond_both (rests d m i.0) _ _ (λ (n : Machine). n.hand p ≡ m.hand p) (λ _. refl) (λ _. refl)
  elsewhere (event.Input l byte) own fail repair upset = refl
  elsewhere (event.Close l) own fail repair upset = refl
  elsewhere (event.Fail (element.Processor q)) own fail repair upset = cond_both (is_down (m.hand q.0)) _ _ (λ (n : Machine). n.hand p ≡ m.hand p) (λ _. refl) (λ _. update_other m.hand q.0 hand.Down p (differ q.0 fail))
  elsewhere (event.Fail (element.Memory i)) own fail repair upset = refl
  elsewhere (event.Fail (element.Io i)) own fail repair upset = refl
  elsewhere (event.Repair (element.Processor q)) own fail repair upset = update_other m.hand q.0 (comes_back (m.hand q.0)) p (differ q.0 repair)
  elsewhere (event.Repair (element.Memory i)) own fail repair upset = refl
  elsewhere (event.Repair (element.Io i)) own fail repair upset = refl
  elsewhere (event.Upset q half reg mask) own fail repair upset = update_other m.hand q.0 (strikes half reg mask (m.hand q.0)) p (differ q.0 upset)
  elsewhere (event.Hangup l) own fail repair upset = refl

  -- one that is mended seeks
  pub mended_seeks : (x : Event) → Allowed d m x → repairs (processor p) x ≡ true → (happens d m x).hand p ≡ hand.Seek
  mended_seeks (event.Repair (element.Processor q)) may here = subst (λ k. update m.hand q.0 (comes_back (m.hand q.0)) k ≡ hand.Seek) (sym (eqb-true p q.0 here)) (update_same m.hand q.0 (comes_back (m.hand q.0)) ∙ ap comes_back may.1)
  mended_seeks (event.Repair (element.Memory i)) may here = absurd (false≢true here)
  mended_seeks (event.Repair (element.Io i)) may here = absurd (false≢true here)
  mended_seeks (event.Processor q) may here = absurd (false≢true here)
  mended_seeks (event.Io i) may here = absurd (false≢true here)
  mended_seeks (event.Input l byte) may here = absurd (false≢true here)
  mended_seeks (event.Close l) may here = absurd (false≢true here)
  mended_seeks (event.Fail e) may here = absurd (false≢true here)
  mended_seeks (event.Upset q half reg mask) may here = absurd (false≢true here)
  mended_seeks (event.Hangup l) may here = absurd (false≢true here)
