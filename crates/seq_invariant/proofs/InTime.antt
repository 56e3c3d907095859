-- On both copies status words name no incarnation above the present one, after every event.
use Rattle.std.proofs.Common.{◌≡◌, ℕ, suc, ◌-◌, ◌/◌, ◌%◌, ◌<◌, ◌≤◌, Bool, true, false, not, ◌==◌, nat_le, Option, Some, None, length, refl, ap, sym, subst, arith}
use Rattle.std.proofs.lemmas.Bool.{cond_both}
use Rattle.seq_words.specs.declared.description.MachineDesc.{MachineDesc}
use Rattle.seq_words.specs.declared.events.Event.TheVariants as event
use Rattle.seq_words.specs.declared.kinds.Element.TheVariants as element
use Rattle.seq_layout.specs.Places.{memory_of}
use Rattle.seq_layout.specs.Shapes.{shape_of, segment_extent}
use Rattle.seq_layout.specs.Copies.{serves}
use Rattle.seq_layout.specs.declared.units.Unit.{Unit as Part}
use Rattle.seq_layout.specs.declared.units.Unit.TheVariants.{Block, Word}
use Rattle.seq_layout.specs.declared.units.WordAt.{WordAt}
use Rattle.seq_status.specs.declared.status.Holder.{Holder}
use Rattle.seq_status.specs.declared.status.Status.TheVariants as status
use Rattle.seq_status.specs.Words.{word_of}
use Rattle.seq_process.specs.declared.running.Running.{Running}
use Rattle.seq_cache.specs.Changes.{Changes}
use Rattle.seq_locks.specs.Turns.{is_taken, word_at}
use Rattle.seq_kernel.specs.Steps.{step_of}
use Rattle.seq_kernel.specs.declared.outcomes.Cause.{Cause}
use Rattle.seq_kernel.specs.declared.outcomes.Cause.TheVariants as cause
use Rattle.seq_kernel.specs.declared.outcomes.Outcome.{Outcome}
use Rattle.seq_kernel.specs.declared.outcomes.Outcome.TheVariants as outcome
use Rattle.seq_kernel.specs.declared.outcomes.Reason.TheVariants.{Lock}
use Rattle.seq_kernel.specs.declared.outcomes.Note.TheVariants.{Found}
use Rattle.seq_io.specs.Changes.Change.{Unchanged, To_word}
use Rattle.seq_turns.specs.declared.hand.Hand.{Hand}
use Rattle.seq_turns.specs.declared.hand.Hand.TheVariants as hand
use Rattle.seq_turns.specs.declared.hand.FlushAt.{FlushAt}
use Rattle.seq_turns.specs.declared.hand.FlushAt.TheVariants as flush
use Rattle.seq_turns.specs.declared.hand.ReleaseAt.TheVariants as release
use Rattle.seq_turns.specs.declared.hand.RecoveryAt.{RecoveryAt}
use Rattle.seq_turns.specs.declared.hand.RecoveryAt.TheVariants as recovery
use Rattle.seq_turns.specs.Machines.{Machine, Change, Move, Turn, idles, words_after}
use Rattle.seq_turns.specs.Machines.Turn.{Moves, Looks, Copies_unit, Stops}
use Rattle.seq_turns.specs.Reading.{status_word, lock_word, holder, write_word, copied_memory}
use Rattle.seq_turns.specs.Causes.{agree, released, flushes, finds}
use Rattle.seq_turns.specs.Operations.{flush_move, unit_count}
use Rattle.seq_recover.specs.Reading.{left_from}
use Rattle.seq_recover.specs.Turns.{recovery_word}
use Rattle.seq_turns.specs.Recoveries.{locks_cleared, copied_over, recovery_move, copy_on, unit_taken}
use Rattle.seq_turns.specs.Processors.{is_free, deserted, seeks, after_step, runs, someone_amid, copies_or_waits, seeks_or_copies, runs_or_copies, turn}
use Rattle.seq_turns.specs.Duties.{duty, after_duty, rests}
use Rattle.seq_turns.specs.Events.{is_down, stopped, after_turn, happens}
use Rattle.seq_turns.proofs.Functions.{update_cases}
use Rattle.seq_stands.specs.Grips.{Kind, number_of, word}
use Rattle.seq_stands.specs.Grips.Kind.{Run, Pass1, Pass2, Back, Forward}
use Rattle.seq_stands.specs.Hands.{IsHand, IsFlushAt, holder_is}
use Rattle.seq_stands.specs.Plain.{IsInTime}
use Rattle.seq_stands.proofs.Changes.{Leaves, block_leaves, word_leaves, away_from_lock, lock_leaves}
use Rattle.seq_stands.proofs.Duties.{duty_leaves}
use Rattle.seq_stands.proofs.FitChanged.{copy_cases}
use Rattle.seq_invariant.specs.Within.{StatusWordsInTime, EventsKeepInTime}

number_few : (k : Kind) → (1 ≤ number_of k) × (number_of k ≤ 5)
number_few Run = (omega arith, omega arith)
number_few Pass1 = (omega arith, omega arith)
number_few Pass2 = (omega arith, omega arith)
number_few Back = (omega arith, omega arith)
number_few Forward = (omega arith, omega arith)

module _ (d : MachineDesc) (m : Machine) where
  pub free_in_time : IsInTime d m 0
  free_in_time = record { format = record { kind = omega arith; idle = λ z. refl }; named = λ ne. absurd (ne refl) }

  -- a word that names a processor in its present incarnation
  word_in_time : (k : Kind) (p : ℕ) → p < 256 → IsInTime d m (word k p (m.incarnation p))
  word_in_time k p small =
      let i = m.incarnation p in
      let b = number_few k in
      let kind : word k p i % 256 ≡ number_of k = omega (arith, b.1, small) in
      let pe : word k p i / 256 % 256 ≡ p = omega (arith, b.1, small) in
      let inc : word k p i / 65536 ≡ i = omega (arith, b.1, small) in
      record {
        format = record { kind = omega (arith, kind, b.1); idle = λ z. absurd (let c : ⊥ = omega (arith, kind, z, b.0) in c) };
        named = λ ne. subst (λ x. x ≤ m.incarnation (word k p i / 256 % 256)) (sym inc) (subst (λ x. i ≤ m.incarnation x) (sym pe) (omega arith));
      }

-- it stays so while no incarnation falls
later : (d : MachineDesc) (m n : Machine) → ((p : ℕ) → m.incarnation p ≤ n.incarnation p) → (w : ℕ) → IsInTime d m w → IsInTime d n w
later d m n up w is = record { format = is.format; named = λ ne. let a = is.named ne in let b = up (w / 256 % 256) in omega (arith, a, b) }

-- What is said of status words, each at this copy.
module _ (d : MachineDesc) (m : Machine) (c : Bool) (Says : ℕ → ℕ → Type 0) where
  -- after a change
  abbrev pub Tells : Change → Type 0
  Tells change = (q : ℕ) → q < length d.processes → Says q (words_after change m.copies.word q 0 c)

  abbrev pub MoveTells : Move → Type 0
  MoveTells move = Tells move.change

  abbrev pub TurnTells : Turn → Type 0
  TurnTells (Moves move) = Tells move.change
  TurnTells (Looks next move) = Tells move.change
  TurnTells (Copies_unit i) = Unit {0}
  TurnTells Stops = Unit {0}

-- It is said of a free word, and of one that names a processor in its present incarnation. Then it is said after every turn that
-- copies no unit of a memory, if it was before.
module _ (d : MachineDesc) (m : Machine) (c : Bool) (Says : ℕ → ℕ → Type 0) (free : (q : ℕ) → Says q 0) (alive : (k : Kind) (p q : ℕ) → p < 256 → Says q (word k p (m.incarnation p)))
    (before : (q : ℕ) → q < length d.processes → Says q (m.copies.word q 0 c)) where
  still : Tells d m c Says Unchanged
  still q there = before q there

  pub leaves : (change : Change) → Leaves d change → Tells d m c Says change
  leaves change k q there = subst (Says q) (sym (k.word m.copies.word q c there)) (before q there)

  says : (q : ℕ) (c' : Bool) (w : ℕ) → Says q w → Tells d m c Says (write_word d m.copies q 0 c' w)
  says q c' w is = cond_both (serves (shape_of d) m.copies q c') (To_word q 0 c' w) Unchanged (Tells d m c Says)
      (λ _ x there. copy_cases (λ e _. Says e) m.copies.word q 0 c' w x 0 c (λ here _. subst (λ e. Says e w) (sym here) is) (before x there)) (λ _. still)

  lock_set : (at : WordAt) (t : ℕ) (c' : Bool) (w : ℕ) → at ≡ lock_word d t → Tells d m c Says (write_word d m.copies at.extent.0 at.word c' w)
  lock_set at t c' w e = subst (λ (x : WordAt). Tells d m c Says (write_word d m.copies x.extent.0 x.word c' w)) (sym e) (leaves (write_word d m.copies (segment_extent (shape_of d) t) 0 c' w) (lock_leaves d m.copies t c' w))

  status_set : (at : WordAt) (q : ℕ) (c' : Bool) (w : ℕ) → at ≡ status_word q → Says q w → Tells d m c Says (write_word d m.copies at.extent.0 at.word c' w)
  status_set at q c' w e is = subst (λ (x : WordAt). Tells d m c Says (write_word d m.copies x.extent.0 x.word c' w)) (sym e) (says q c' w is)

  module _ (p : ℕ) (small : p < 256) where
    mine : (k : Kind) (q w : ℕ) → w ≡ word k p (m.incarnation p) → Says q w
    mine k q w e = subst (Says q) (sym e) (alive k p q small)

    recovers_mine : (forward : Bool) (q : ℕ) (h : Holder) → h ≡ holder_is p (m.incarnation p) → Says q (recovery_word forward h)
    recovers_mine true q h e = mine Forward q (recovery_word true h) (ap (λ (x : Holder). word_of (status.Forward x)) e)
    recovers_mine false q h e = mine Back q (recovery_word false h) (ap (λ (x : Holder). word_of (status.Back x)) e)

    found : (r : Running) (cache : Changes) (why : Cause) (mask : ℕ) → TurnTells d m c Says (finds d m p r cache why mask)
    found r cache why mask = cond_both (r.steps == 0) _ _ (TurnTells d m c Says) (λ _. still)
        (λ _. cond_both (agree r.pair) (Moves (record (idles m p) { hand = flushes m p r why mask; cache = cache; note = Found r.pid why })) Stops (TurnTells d m c Says) (λ _. still) (λ _. tt))

    copied : (i : ℕ) (o : Option ℕ) → TurnTells d m c Says (copies_or_waits m p i o)
    copied i (Some r) = still
    copied i None = tt

    sought : (o : Option ℕ) → TurnTells d m c Says (seeks d m p o)
    sought (Some q) = says q false _ (recovers_mine _ q (holder m p) refl)
    sought None = cond_both (is_free d m (m.scan p)) _ _ (MoveTells d m c Says) (λ _. says (m.scan p) false _ (mine Run (m.scan p) (word_of (status.Run (holder m p))) refl)) (λ _. still)

    ran : (r : Running) → TurnTells d m c Says (runs d m p r)
    ran r = cond_both (nat_le d.quantum r.used) _ _ (TurnTells d m c Says) (λ _. found r (m.cache p) cause.Quantum 0) (λ _. go (step_of d m.copies r (m.cache p)).outcome)
      where
        go : (o : Outcome) → TurnTells d m c Says (after_step d m p r (step_of d m.copies r (m.cache p)) o)
        go outcome.Done = still
        go (outcome.Claim s) = cond_both (is_taken (shape_of d) m.copies (lock_word d s.0) false) _ _ (TurnTells d m c Says)
            (λ _. found r (m.cache p) (cause.Wait (Lock s (record { 0 = word_at m.copies (lock_word d s.0) false - 1 }))) 0) (λ _. lock_set (lock_word d s.0) s.0 false (suc r.pid.0) refl)
        go (outcome.NeedsFlush why) = found (step_of d m.copies r (m.cache p)).running (step_of d m.copies r (m.cache p)).cache why (released r.held why)
        go (outcome.Waits reason) = found r (m.cache p) (cause.Wait reason) 0
        go outcome.Diverged = tt

    flushed : (r : Running) (why : Cause) (mask : ℕ) (f : FlushAt) → IsFlushAt p (m.incarnation p) r.pid.0 f → MoveTells d m c Says (flush_move d m p r why mask f)
    flushed r why mask (flush.Mark f) is =
        let w = mine Pass1 f.pid.0 (word_of (status.Pass1 f.holder)) (ap (λ (x : Holder). word_of (status.Pass1 x)) is.holder) in
        cond_both (f.cursor == 0) _ _ (MoveTells d m c Says) (λ _. says f.pid.0 false _ w) (λ _. says f.pid.0 true _ w)
    flushed r why mask (flush.First f) is = cond_both (nat_le (unit_count m p f) f.cursor) _ _ (MoveTells d m c Says)
        (λ _. says f.pid.0 false _ (mine Pass2 f.pid.0 (word_of (status.Pass2 f.holder)) (ap (λ (x : Holder). word_of (status.Pass2 x)) is.holder))) (λ _. leaves _ (block_leaves d m.copies _ _ false _))
    flushed r why mask (flush.Second f) is = cond_both (f.cursor == 0) _ _ (MoveTells d m c Says)
        (λ _. says f.pid.0 true _ (mine Pass2 f.pid.0 (word_of (status.Pass2 f.holder)) (ap (λ (x : Holder). word_of (status.Pass2 x)) is.holder))) (λ _. leaves _ (block_leaves d m.copies _ _ true _))
    flushed r why mask (flush.Close f) is =
        let w = mine Run f.pid.0 (word_of (status.Run f.holder)) (ap (λ (x : Holder). word_of (status.Run x)) is.holder) in
        cond_both (f.cursor == 0) _ _ (MoveTells d m c Says) (λ _. says f.pid.0 false _ w) (λ _. says f.pid.0 true _ w)

    recovered : (r : RecoveryAt) → IsHand d p (m.incarnation p) (hand.Recovering r) → MoveTells d m c Says (recovery_move d m p r)
    recovered (recovery.Claimed r) is = let w = recovers_mine r.forward r.pid.0 r.holder is.holder in
        cond_both (r.cursor == 0) _ _ (MoveTells d m c Says) (λ _. says r.pid.0 false _ w) (λ _. says r.pid.0 true _ w)
    recovered (recovery.Copying r) is = over _
      where
        over : (o : Option (ℕ × ℕ)) → Tells d m c Says (copied_over d m.copies r.forward o)
        over None = still
        over (Some b) = leaves _ (block_leaves d m.copies b.0 b.1 r.forward (m.copies.block b.0 b.1 (not r.forward)))
    recovered (recovery.Locks r) is = go (left_from d m.copies r.pid.0 r.cursor)
      where
        go : (o : Option ℕ) → MoveTells d m c Says (locks_cleared d m p r o)
        go (Some k) = leaves _ (word_leaves d _ _ _ _ (λ x there. away_from_lock d (k / 2) x there))
        go None = still
    recovered (recovery.Closing r) is = cond_both (r.cursor == 0) _ _ (MoveTells d m c Says) (λ _. says r.pid.0 true 0 (free r.pid.0)) (λ _. says r.pid.0 false 0 (free r.pid.0))

    pub turn_tells : (h : Hand) → IsHand d p (m.incarnation p) h → TurnTells d m c Says (turn d m p h)
    turn_tells hand.Down is = still
    turn_tells hand.Seek is = go (copied_memory d m.copies)
      where
        go : (o : Option ℕ) → TurnTells d m c Says (seeks_or_copies d m p o)
        go (Some i) = copied i (someone_amid d m)
        go None = sought (deserted d m)
    turn_tells (hand.Claiming q claim) is = cond_both (is_taken (shape_of d) m.copies claim.at true) _ _ (MoveTells d m c Says) (λ _. still) (λ _. status_set claim.at q.0 true claim.value is.place (mine Run q.0 claim.value is.claimant))
    turn_tells (hand.Running r) is = go (copied_memory d m.copies)
      where
        go : (o : Option ℕ) → TurnTells d m c Says (runs_or_copies d m p r o)
        go (Some i) = copied i (someone_amid d m)
        go None = ran r
    turn_tells (hand.Acquiring r t claim) is = cond_both (is_taken (shape_of d) m.copies claim.at true) _ _ (TurnTells d m c Says)
        (λ _. found r (m.cache p) (cause.Wait (Lock t (record { 0 = word_at m.copies claim.at true - 1 }))) 0) (λ _. lock_set claim.at t.0 true claim.value is.place)
    turn_tells (hand.Flushing r why mask f) is = flushed r why mask f is
    turn_tells (hand.Unlocking r why mask (release.Shadow l)) is = lock_set l.at is.segment true 0 is.place
    turn_tells (hand.Unlocking r why mask (release.Primary l)) is = lock_set l.at is.segment false 0 is.place
    turn_tells (hand.Leaving q (release.Shadow l)) is = status_set l.at q.0 true 0 is (free q.0)
    turn_tells (hand.Leaving q (release.Primary l)) is = status_set l.at q.0 false 0 is (free q.0)
    turn_tells (hand.Recovering r) is = recovered r is

module _ (d : MachineDesc) (m : Machine) (before : StatusWordsInTime d m) where
  -- in time they are at both copies
  abbrev InTime : Bool → ℕ → ℕ → Type 0
  InTime c q w = IsInTime d m w

  abbrev Each : Change → Type 0
  Each change = (c : Bool) → Tells d m c (InTime c) change

  left : (change : Change) → Leaves d change → Each change
  left change k c = leaves d m c (InTime c) (λ q. free_in_time d m) (λ k p q small. word_in_time d m k p small) (λ q there. before.each q c there) change k

  turns : (p : ℕ) → p < 256 → (h : Hand) → IsHand d p (m.incarnation p) h → (c : Bool) → TurnTells d m c (InTime c) (turn d m p h)
  turns p small h is c = turn_tells d m c (InTime c) (λ q. free_in_time d m) (λ k r q few. word_in_time d m k r few) (λ q there. before.each q c there) p small h is

  unit_tells : (i : ℕ) (u : Option Part) → Each (unit_taken d m.copies i u)
  unit_tells i None c q there = before.each q c there
  unit_tells i (Some (Block e n)) c q there = before.each q c there
  unit_tells i (Some (Word w)) c q there = copy_cases (λ _ _. IsInTime d m) m.copies.word w.extent.0 w.word (copy_on d i w.extent.0) (m.copies.word w.extent.0 w.word (not (copy_on d i w.extent.0))) q 0 c
      (λ here zero. subst (λ n. IsInTime d m (m.copies.word w.extent.0 n (not (copy_on d i w.extent.0)))) zero
      (subst (λ e. IsInTime d m (m.copies.word e 0 (not (copy_on d i w.extent.0)))) here (before.each q (not (copy_on d i w.extent.0)) there))) (before.each q c there)

  same_incarnations : (p : ℕ) → m.incarnation p ≤ m.incarnation p
  same_incarnations p = omega arith

  -- a processor stops: its incarnation rises
  stop_tells : (p : ℕ) → StatusWordsInTime d (stopped m p)
  stop_tells p = record { each = λ q c there. later d m (stopped m p) (λ r. update_cases (λ x. m.incarnation r ≤ x) m.incarnation p (suc (m.incarnation p)) r (λ e. let same = ap m.incarnation e in omega (arith, same)) (λ _. omega arith)) _ (before.each q c there) }

  after : (p : ℕ) (t : Turn) → ((c : Bool) → TurnTells d m c (InTime c) t) → StatusWordsInTime d (after_turn d m p t)
  after p (Moves move) k = record { each = λ q c there. later d m (after_turn d m p (Moves move)) same_incarnations _ (k c q there) }
  after p (Looks next move) k = record { each = λ q c there. later d m (after_turn d m p (Looks next move)) same_incarnations _ (k c q there) }
  after p (Copies_unit i) k = record { each = λ q c there. later d m (after_turn d m p (Copies_unit i)) same_incarnations _ (unit_tells i _ c q there) }
  after p Stops k = stop_tells p

  -- the same words
  same_words : (n : Machine) → ((q : ℕ) (c : Bool) → n.copies.word q 0 c ≡ m.copies.word q 0 c) → ((p : ℕ) → m.incarnation p ≤ n.incarnation p) → StatusWordsInTime d n
  same_words n same up = record { each = λ q c there. later d m n up _ (subst (IsInTime d m) (sym (same q c)) (before.each q c there)) }

pub events_keep_in_time : EventsKeepInTime
events_keep_in_time d m (event.Processor p) described ok stands before =
    after d m before p.0 (turn d m p.0 (m.hand p.0)) (turns d m before p.0 (let few = described.processors.high_at in omega (arith, ok, few)) (m.hand p.0) (stands.hands.hands p.0))
events_keep_in_time d m (event.Io i) described ok stands before = cond_both (rests d m i.0) _ _ (StatusWordsInTime d) (λ _. before)
    (λ _. let next = after_duty d i.0 (m.io i.0).cursor (duty d m (m.io i.0).cursor) m in record { each = λ q c there. later d m next (λ p. omega arith) _ (left d m before _ (duty_leaves d m (m.io i.0).cursor) c q there) })
events_keep_in_time d m (event.Input l byte) described ok stands before = same_words d m before _ (λ q c. refl) (λ p. omega arith)
events_keep_in_time d m (event.Close l) described ok stands before = same_words d m before _ (λ q c. refl) (λ p. omega arith)
events_keep_in_time d m (event.Fail (element.Processor p)) described ok stands before = cond_both (is_down (m.hand p.0)) _ _ (StatusWordsInTime d) (λ _. before) (λ _. stop_tells d m before p.0)
events_keep_in_time d m (event.Fail (element.Memory i)) described ok stands before = record {
  each = λ q c there. later d m (happens d m (event.Fail (element.Memory i))) (λ p. omega arith) _
      (cond_both (memory_of d.memories q c == i.0) 0 (m.copies.word q 0 c) (IsInTime d m) (λ _. free_in_time d m) (λ _. before.each q c there));
}
events_keep_in_time d m (event.Fail (element.Io i)) described ok stands before = same_words d m before _ (λ q c. refl) (λ p. omega arith)
events_keep_in_time d m (event.Repair (element.Processor p)) described ok stands before = same_words d m before _ (λ q c. refl) (λ r. omega arith)
events_keep_in_time d m (event.Repair (element.Memory i)) described ok stands before = same_words d m before _ (λ q c. refl) (λ p. omega arith)
events_keep_in_time d m (event.Repair (element.Io i)) described ok stands before = same_words d m before _ (λ q c. refl) (λ p. omega arith)
events_keep_in_time d m (event.Upset p half reg mask) described ok stands before = same_words d m before _ (λ q c. refl) (λ r. omega arith)
events_keep_in_time d m (event.Hangup l) described ok stands before = same_words d m before _ (λ q c. refl) (λ p. omega arith)
