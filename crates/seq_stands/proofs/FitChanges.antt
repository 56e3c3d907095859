-- All that the turn of a processor may change: a block, the status word of a process, or the lock word of a segment.
use Rattle.std.proofs.Common.{◌≡◌, ℕ, ◌-◌, ◌/◌, ◌<◌, Bool, true, false, ◌==◌, nat_le, Option, Some, None, length, refl, ap, sym, ◌∙◌, subst, arith}
use Rattle.std.proofs.lemmas.Bool.{cond_both}
use Rattle.seq_words.specs.declared.block.Block.{Block}
use Rattle.seq_words.specs.declared.description.MachineDesc.{MachineDesc}
use Rattle.seq_layout.specs.Shapes.{shape_of, segment_extent}
use Rattle.seq_layout.specs.Copies.{serves}
use Rattle.seq_layout.specs.declared.units.WordAt.{WordAt}
use Rattle.seq_process.specs.declared.running.Running.{Running}
use Rattle.seq_cache.specs.Changes.{Changes}
use Rattle.seq_locks.specs.Turns.{is_taken, word_at}
use Rattle.seq_kernel.specs.declared.outcomes.Cause.{Cause}
use Rattle.seq_kernel.specs.declared.outcomes.Cause.TheVariants as cause
use Rattle.seq_kernel.specs.declared.outcomes.Outcome.{Outcome}
use Rattle.seq_kernel.specs.declared.outcomes.Outcome.TheVariants as outcome
use Rattle.seq_kernel.specs.declared.outcomes.Reason.{Reason}
use Rattle.seq_kernel.specs.declared.outcomes.Reason.TheVariants.{Lock}
use Rattle.seq_kernel.specs.Steps.{step_of}
use Rattle.seq_turns.specs.declared.hand.Hand.{Hand}
use Rattle.seq_turns.specs.declared.hand.Hand.TheVariants as hand
use Rattle.seq_turns.specs.declared.hand.FlushAt.{FlushAt}
use Rattle.seq_turns.specs.declared.hand.FlushAt.TheVariants as flush
use Rattle.seq_turns.specs.declared.hand.ReleaseAt.TheVariants as release
use Rattle.seq_turns.specs.declared.hand.RecoveryAt.{RecoveryAt}
use Rattle.seq_turns.specs.declared.hand.RecoveryAt.TheVariants as recovery
use Rattle.seq_kernel.specs.declared.outcomes.Note.TheVariants.{Found}
use Rattle.seq_turns.specs.Machines.{Machine, Change, Move, Turn, idles}
use Rattle.seq_io.specs.Changes.Change.{Unchanged, To_block, To_word}
use Rattle.seq_turns.specs.Machines.Turn.{Moves, Looks, Copies_unit, Stops}
use Rattle.seq_turns.specs.Reading.{status_word, lock_word, write_word, write_block, copied_memory, is_deserted, ruling as status_now}
use Rattle.seq_turns.specs.Causes.{agree, released, flushes, finds}
use Rattle.seq_turns.specs.Operations.{flush_move, unit_count}
use Rattle.seq_recover.specs.Reading.{left_from}
use Rattle.seq_turns.specs.Recoveries.{locks_cleared, copied_over, recovery_move}
use Rattle.seq_turns.specs.Processors.{is_free, looks, deserted, seeks, after_step, runs, someone_amid, copies_or_waits, seeks_or_copies, runs_or_copies, turn}
use Rattle.seq_turns.proofs.Functions.{lowest_passes}
use Rattle.seq_recover.proofs.LeftFrom.{left_passes}
use Rattle.seq_stands.specs.Grips.{Stage, grip}
use Rattle.seq_stands.specs.Grips.Grip.{On}
use Rattle.seq_stands.specs.Words.{words_of, GripHolds, Grips}
use Rattle.seq_stands.specs.Hands.{IsHand, IsFlushAt}
use Rattle.seq_stands.specs.Standing.{Stands}
use Rattle.seq_stands.proofs.Gripped.{process_of, recovery_stage}
use Rattle.seq_stands.proofs.LockSteps.{HeldBy, step_held}
use Rattle.seq_stands.specs.FitHands.{HandFits}

module _ (d : MachineDesc) (m : Machine) (p : ℕ) (st : Stands d m) (P : Change → Type 0) (none : P Unchanged) (block : (e n : ℕ) (c : Bool) (b : Block) → P (To_block e n c b)) (status : (q : ℕ) (c : Bool) (w : ℕ) → q < length d.processes → P (To_word q 0 c w))
    (lock : (t : ℕ) (c : Bool) (w : ℕ) → t < length d.segments → P (To_word (segment_extent (shape_of d) t) 0 c w)) where
  abbrev Does : Move → Type 0
  Does move = P move.change

  abbrev pub TurnDoes : Turn → Type 0
  TurnDoes (Moves move) = P move.change
  TurnDoes (Looks next move) = P move.change
  TurnDoes (Copies_unit i) = Unit {0}
  TurnDoes Stops = Unit {0}

  status_set : (q : ℕ) (c : Bool) (w : ℕ) → q < length d.processes → P (write_word d m.copies q 0 c w)
  status_set q c w l = cond_both (serves (shape_of d) m.copies q c) _ _ P (λ _. status q c w l) (λ _. none)

  lock_set : (t : ℕ) (c : Bool) (w : ℕ) → t < length d.segments → P (write_word d m.copies (segment_extent (shape_of d) t) 0 c w)
  lock_set t c w l = cond_both (serves (shape_of d) m.copies (segment_extent (shape_of d) t) c) _ _ P (λ _. lock t c w l) (λ _. none)

  block_set : (e n : ℕ) (c : Bool) (b : Block) → P (write_block d m.copies e n c b)
  block_set e n c b = cond_both (serves (shape_of d) m.copies e c) _ _ P (λ _. block e n c b) (λ _. none)

  -- a word that is known
  word_set : (at to : WordAt) (c : Bool) (w : ℕ) → at ≡ to → P (write_word d m.copies to.extent.0 to.word c w) → P (write_word d m.copies at.extent.0 at.word c w)
  word_set at to c w e is = subst (λ x. P (write_word d m.copies x.extent.0 x.word c w)) (sym e) is

  found : (r : Running) (cache : Changes) (c : Cause) (mask : ℕ) → TurnDoes (finds d m p r cache c mask)
  found r cache c mask = cond_both (r.steps == 0) _ _ TurnDoes (λ _. none)
      (λ _. cond_both (agree r.pair) (Moves (record (idles m p) { hand = flushes m p r c mask; cache = cache; note = Found r.pid c })) Stops TurnDoes (λ _. none) (λ _. tt))

  waits : (r : Running) (reason : Reason) → TurnDoes (finds d m p r (m.cache p) (cause.Wait reason) 0)
  waits r reason = found r (m.cache p) (cause.Wait reason) 0

  gripped : (h : Hand) (q : ℕ) (stage : Stage) → m.hand p ≡ h → grip h ≡ On q stage → q < length d.processes
  gripped h q stage e g = Grips.process (subst (GripHolds (words_of d m) p) (ap grip e ∙ g) (st.words.grips p))

  copied : (i : ℕ) (o : Option ℕ) → TurnDoes (copies_or_waits m p i o)
  copied i (Some r) = none
  copied i None = tt

  looked : (q : ℕ) → q < length d.processes → Does (looks d m p q)
  looked q l = cond_both (is_free d m q) _ _ Does (λ _. status_set q false _ l) (λ _. none)

  sought : (o : Option ℕ) → deserted d m ≡ o → TurnDoes (seeks d m p o)
  sought (Some q) e = status_set q false _ (lowest_passes (λ q. is_deserted m.incarnation (status_now d m.copies q)) (length d.processes) q e).1
  sought None e = looked (m.scan p) (st.hands.scans p)

  ran : (r : Running) → TurnDoes (runs d m p r)
  ran r = cond_both (nat_le d.quantum r.used) _ _ TurnDoes (λ _. found r (m.cache p) cause.Quantum 0) (λ _. go (step_of d m.copies r (m.cache p)).outcome refl)
    where
      go : (o : Outcome) → (step_of d m.copies r (m.cache p)).outcome ≡ o → TurnDoes (after_step d m p r (step_of d m.copies r (m.cache p)) o)
      go outcome.Done e = none
      go (outcome.Claim s) e =
          let new = subst (HeldBy d r (step_of d m.copies r (m.cache p)).running) e (step_held d m.copies r (m.cache p)).by in
          cond_both (is_taken (shape_of d) m.copies (lock_word d s.0) false) _ _ TurnDoes (λ _. waits r (Lock s (record { 0 = word_at m.copies (lock_word d s.0) false - 1 }))) (λ _. lock_set s.0 false _ new.0)
      go (outcome.NeedsFlush c) e = found (step_of d m.copies r (m.cache p)).running (step_of d m.copies r (m.cache p)).cache c (released r.held c)
      go (outcome.Waits reason) e = waits r reason
      go outcome.Diverged e = tt

  flushed : (r : Running) (c : Cause) (mask : ℕ) (f : FlushAt) → r.pid.0 < length d.processes → IsFlushAt p (m.incarnation p) r.pid.0 f → Does (flush_move d m p r c mask f)
  flushed r c mask (flush.Mark f) l is = let k = subst (λ x. x < length d.processes) (sym is.process) l in
      cond_both (f.cursor == 0) _ _ Does (λ _. status_set f.pid.0 false _ k) (λ _. status_set f.pid.0 true _ k)
  flushed r c mask (flush.First f) l is = let k = subst (λ x. x < length d.processes) (sym is.process) l in
      cond_both (nat_le (unit_count m p f) f.cursor) _ _ Does (λ _. status_set f.pid.0 false _ k) (λ _. block_set _ _ false _)
  flushed r c mask (flush.Second f) l is = let k = subst (λ x. x < length d.processes) (sym is.process) l in
      cond_both (f.cursor == 0) _ _ Does (λ _. status_set f.pid.0 true _ k) (λ _. block_set _ _ true _)
  flushed r c mask (flush.Close f) l is = let k = subst (λ x. x < length d.processes) (sym is.process) l in
      cond_both (f.cursor == 0) _ _ Does (λ _. status_set f.pid.0 false _ k) (λ _. status_set f.pid.0 true _ k)

  recovered : (r : RecoveryAt) → process_of r < length d.processes → Does (recovery_move d m p r)
  recovered (recovery.Claimed r) l = cond_both (r.cursor == 0) _ _ Does (λ _. status_set r.pid.0 false _ l) (λ _. status_set r.pid.0 true _ l)
  recovered (recovery.Copying r) l = over _
    where
      over : (o : Option (ℕ × ℕ)) → P (copied_over d m.copies r.forward o)
      over None = none
      over (Some b) = block_set _ _ r.forward _
  recovered (recovery.Locks r) l = go (left_from d m.copies r.pid.0 r.cursor) refl
    where
      go : (o : Option ℕ) → left_from d m.copies r.pid.0 r.cursor ≡ o → Does (locks_cleared d m p r o)
      go (Some k) e = let b = (left_passes d m.copies r.pid.0 r.cursor k e).2 in lock (k / 2) _ 0 (omega (arith, b))
      go None e = none
  recovered (recovery.Closing r) l = cond_both (r.cursor == 0) _ _ Does (λ _. status_set r.pid.0 true _ l) (λ _. status_set r.pid.0 false _ l)

  pub turn_does : (h : Hand) → m.hand p ≡ h → IsHand d p (m.incarnation p) h → HandFits d h → TurnDoes (turn d m p h)
  turn_does hand.Down e is fits = none
  turn_does hand.Seek e is fits = go (copied_memory d m.copies)
    where
      go : (o : Option ℕ) → TurnDoes (seeks_or_copies d m p o)
      go (Some i) = copied i (someone_amid d m)
      go None = sought (deserted d m) refl
  turn_does (hand.Claiming q c) e is fits = cond_both (is_taken (shape_of d) m.copies c.at true) _ _ Does (λ _. none)
      (λ _. word_set c.at (status_word q.0) true c.value is.place (status_set q.0 true c.value (gripped (hand.Claiming q c) q.0 _ e refl)))
  turn_does (hand.Running r) e is fits = go (copied_memory d m.copies)
    where
      go : (o : Option ℕ) → TurnDoes (runs_or_copies d m p r o)
      go (Some i) = copied i (someone_amid d m)
      go None = ran r
  turn_does (hand.Acquiring r t c) e is fits = cond_both (is_taken (shape_of d) m.copies c.at true) _ _ TurnDoes (λ _. waits r (Lock t (record { 0 = word_at m.copies c.at true - 1 })))
      (λ _. word_set c.at (lock_word d t.0) true c.value is.place (lock_set t.0 true c.value fits.2.inside))
  turn_does (hand.Flushing r c mask f) e is fits = flushed r c mask f fits.0.within.process is
  turn_does (hand.Unlocking r c mask (release.Shadow l)) e is fits = word_set l.at (lock_word d is.segment) true 0 is.place (lock_set is.segment true 0 (fits.2.inside is.segment is.bit))
  turn_does (hand.Unlocking r c mask (release.Primary l)) e is fits = word_set l.at (lock_word d is.segment) false 0 is.place (lock_set is.segment false 0 (fits.2.inside is.segment is.bit))
  turn_does (hand.Leaving q (release.Shadow l)) e is fits = word_set l.at (status_word q.0) true 0 is (status_set q.0 true 0 (gripped (hand.Leaving q (release.Shadow l)) q.0 _ e refl))
  turn_does (hand.Leaving q (release.Primary l)) e is fits = word_set l.at (status_word q.0) false 0 is (status_set q.0 false 0 (gripped (hand.Leaving q (release.Primary l)) q.0 _ e refl))
  turn_does (hand.Recovering r) e is fits = let s = recovery_stage r in recovered r (gripped (hand.Recovering r) (process_of r) s.0 e s.1)
