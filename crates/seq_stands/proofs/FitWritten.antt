-- What the turn of a processor changes fits.
use Rattle.std.proofs.Common.{◌≡◌, ◌≢◌, ◌⊎◌, inl, inr, ℕ, zero, suc, ◌+◌, ◌-◌, ◌/◌, ◌<◌, ◌≤◌, Bool, true, false, not, ◌==◌, nat_le, List, Option, Some, None, length, refl, ap, sym, ◌∙◌, subst, arith}
use Rattle.std.proofs.lemmas.Bool.{cond_both, cases_lt, eqb-false, leb-false}
use Rattle.seq_words.specs.declared.block.Block.{Block}
use Rattle.seq_words.specs.declared.description.MachineDesc.{MachineDesc}
use Rattle.seq_layout.specs.Shapes.{shape_of, segment_extent}
use Rattle.seq_layout.specs.Copies.{serves}
use Rattle.seq_layout.specs.declared.units.WordAt.{WordAt}
use Rattle.seq_status.specs.declared.status.Holder.{Holder}
use Rattle.seq_status.specs.declared.status.Status.{Status}
use Rattle.seq_status.specs.declared.status.Status.TheVariants as status
use Rattle.seq_status.specs.Words.{word_of}
use Rattle.seq_process.specs.declared.running.Running.{Running}
use Rattle.seq_cache.specs.declared.change.Change.{Change as Changed}
use Rattle.seq_cache.specs.Changes.{Changes}
use Rattle.seq_locks.specs.Turns.{is_taken, word_at}
use Rattle.seq_flush.specs.declared.flush.Flush.{Flush}
use Rattle.seq_flush.specs.Turns.{units, unit_at, no_change}
use Rattle.seq_flush.specs.Units.{units_of, context_change}
use Rattle.seq_flush.proofs.Numbered.{length_units, units_more, unit_changed, unit_context}
use Rattle.seq_kernel.specs.declared.outcomes.Cause.{Cause}
use Rattle.seq_kernel.specs.declared.outcomes.Cause.TheVariants as cause
use Rattle.seq_kernel.specs.declared.outcomes.Outcome.{Outcome}
use Rattle.seq_kernel.specs.declared.outcomes.Outcome.TheVariants as outcome
use Rattle.seq_kernel.specs.declared.outcomes.Reason.{Reason}
use Rattle.seq_kernel.specs.declared.outcomes.Reason.TheVariants.{Lock}
use Rattle.seq_kernel.specs.declared.outcomes.Note.TheVariants.{Found}
use Rattle.seq_kernel.specs.Steps.{step_of}
use Rattle.seq_turns.specs.declared.hand.Hand.{Hand}
use Rattle.seq_turns.specs.declared.hand.Hand.TheVariants as hand
use Rattle.seq_turns.specs.declared.hand.FlushAt.{FlushAt}
use Rattle.seq_turns.specs.declared.hand.FlushAt.TheVariants as flush
use Rattle.seq_turns.specs.declared.hand.ReleaseAt.TheVariants as release
use Rattle.seq_turns.specs.declared.hand.RecoveryAt.{RecoveryAt}
use Rattle.seq_turns.specs.declared.hand.RecoveryAt.TheVariants as recovery
use Rattle.seq_turns.specs.Machines.{Machine, Change, Move, Turn, idles}
use Rattle.seq_io.specs.Changes.Change.{Unchanged, To_block, To_word}
use Rattle.seq_turns.specs.Machines.Turn.{Moves, Looks, Copies_unit, Stops}
use Rattle.seq_turns.specs.Reading.{status_word, lock_word, holder, write_word, write_block, copied_memory, is_deserted, ruling as status_now}
use Rattle.seq_turns.specs.Causes.{agree, released, flushes, finds}
use Rattle.seq_turns.specs.Operations.{flush_move, unit_count}
use Rattle.seq_recover.specs.Reading.{left_from}
use Rattle.seq_recover.specs.Turns.{recovery_word}
use Rattle.seq_turns.specs.Recoveries.{locks_cleared, copied_over, recovery_move}
use Rattle.seq_turns.specs.Processors.{is_free, looks, deserted, seeks, after_step, runs, someone_amid, copies_or_waits, seeks_or_copies, runs_or_copies, turn}
use Rattle.seq_turns.proofs.Functions.{lowest_passes}
use Rattle.seq_recover.proofs.LeftFrom.{left_passes}
use Rattle.seq_stands.specs.Hands.{IsHand, IsFlushAt, holder_is}
use Rattle.seq_stands.proofs.LockSteps.{HeldBy, step_held}
use Rattle.seq_stands.specs.FitHands.{HandFits}
use Rattle.seq_stands.specs.FitBlocks.{ContextBlocksFit, BlocksFit, ArePastContexts, AreWhole, IsPastContexts}
use Rattle.seq_stands.specs.Fit.{StatusFits, WordsFit, FlushAtFits, RecoveryAtFits, HandHolds}
use Rattle.seq_stands.proofs.FitChanged.{WordFits, BlockFits, ChangeFits, status_change, lock_change, status_fits, block_copied}

-- the unit of a flush with a number fits: a changed block is of no context, and those of the context fit
unit_writes : (d : MachineDesc) (pid : ℕ) (context : List Block) (changes : List Changed) (i : ℕ) → pid < length d.processes → ContextBlocksFit d context → ArePastContexts d pid changes → AreWhole changes → i < length changes + 8
    → BlockFits d (unit_at (units_of pid context changes) i).extent.0 (unit_at (units_of pid context changes) i).place (unit_at (units_of pid context changes) i).block
unit_writes d pid context changes i there fits past whole below = elim (cases_lt i (length changes)) [
  | inl inside ↦ subst (λ (u : Changed). BlockFits d u.extent.0 u.place u.block) (sym (unit_changed pid context changes i no_change inside))
      (record { whole = whole i no_change inside; context = λ l k. absurd (apart _ (past i no_change inside) l k) })
  | inr after ↦ subst (λ (u : Changed). BlockFits d u.extent.0 u.place u.block) (sym (unit_context pid context changes i after below))
      (let k : i - length changes < 8 = omega (arith, after, below) in record { whole = fits.whole (i - length changes) k; context = λ _ _. fits.fit (i - length changes) k })
]
  where
    apart : (u : Changed) → IsPastContexts d pid u → u.extent.0 < length d.processes → u.place < 8 → ⊥
    apart u is l k = go is.past
      where
        go : ((u.extent.0 ≡ pid) × (8 ≤ u.place)) ⊎ ((t : ℕ) × (t < length d.segments) × (u.extent.0 ≡ segment_extent (shape_of d) t)) → ⊥
        go (inl x) = let b = x.1 in omega (arith, b, k)
        go (inr (t, b, e)) = omega (arith, e, l)

module _ (d : MachineDesc) (m : Machine) (p : ℕ) (few : d.processors ≤ 256) (there : p < d.processors) (scan : m.scan p < length d.processes) (words : WordsFit d m.copies) (blocks : BlocksFit d m.copies) (whole : AreWhole (m.cache p).changes) where
  abbrev Does : Move → Type 0
  Does move = ChangeFits d move.change

  abbrev pub TurnWrites : Turn → Type 0
  TurnWrites (Moves move) = ChangeFits d move.change
  TurnWrites (Looks next move) = ChangeFits d move.change
  TurnWrites (Copies_unit i) = Unit {0}
  TurnWrites Stops = Unit {0}

  word_set : (at to : WordAt) (c : Bool) (w : ℕ) → at ≡ to → WordFits d to.extent.0 to.word w → ChangeFits d (write_word d m.copies at.extent.0 at.word c w)
  word_set at to c w e is = cond_both (serves (shape_of d) m.copies at.extent.0 c) (To_word at.extent.0 at.word c w) Unchanged (ChangeFits d) (λ _. subst (λ x. WordFits d x.extent.0 x.word w) (sym e) is) (λ _. tt)

  -- a status word that names this processor, or is free
  says : (q : ℕ) (c : Bool) (s : Status) → q < length d.processes → StatusFits d (word_of s) → ChangeFits d (write_word d m.copies q 0 c (word_of s))
  says q c s l is = word_set (status_word q) (status_word q) c (word_of s) refl (status_change d q (word_of s) l is)

  free : StatusFits d (word_of status.Idle)
  free = status_fits d status.Idle few tt

  block_set : (e n : ℕ) (c : Bool) (b : Block) → BlockFits d e n b → ChangeFits d (write_block d m.copies e n c b)
  block_set e n c b is = cond_both (serves (shape_of d) m.copies e c) (To_block e n c b) Unchanged (ChangeFits d) (λ _. is) (λ _. tt)

  found : (r : Running) (cache : Changes) (c : Cause) (mask : ℕ) → TurnWrites (finds d m p r cache c mask)
  found r cache c mask = cond_both (r.steps == 0) _ _ TurnWrites (λ _. tt)
      (λ _. cond_both (agree r.pair) (Moves (record (idles m p) { hand = flushes m p r c mask; cache = cache; note = Found r.pid c })) Stops TurnWrites (λ _. tt) (λ _. tt))

  waits : (r : Running) (reason : Reason) → TurnWrites (finds d m p r (m.cache p) (cause.Wait reason) 0)
  waits r reason = found r (m.cache p) (cause.Wait reason) 0

  copied : (i : ℕ) (o : Option ℕ) → TurnWrites (copies_or_waits m p i o)
  copied i (Some r) = tt
  copied i None = tt

  looked : Does (looks d m p (m.scan p))
  looked = cond_both (is_free d m (m.scan p)) _ _ Does (λ _. says (m.scan p) false (status.Run (holder m p)) scan (status_fits d (status.Run (holder m p)) few there)) (λ _. tt)

  -- a recovery's word
  recovers_word : (forward : Bool) (h : Holder) → h.pe.0 < d.processors → StatusFits d (recovery_word forward h)
  recovers_word true h l = status_fits d (status.Forward h) few l
  recovers_word false h l = status_fits d (status.Back h) few l

  recovery_set : (q : ℕ) (c forward : Bool) (h : Holder) → q < length d.processes → h.pe.0 < d.processors → ChangeFits d (write_word d m.copies q 0 c (recovery_word forward h))
  recovery_set q c forward h l k = word_set (status_word q) (status_word q) c (recovery_word forward h) refl (status_change d q (recovery_word forward h) l (recovers_word forward h k))

  sought : (o : Option ℕ) → deserted d m ≡ o → TurnWrites (seeks d m p o)
  sought (Some q) e = recovery_set q false _ (holder m p) (lowest_passes (λ q. is_deserted m.incarnation (status_now d m.copies q)) (length d.processes) q e).1 there
  sought None e = looked

  -- the lock of a segment of the machine
  lock_set : (at : WordAt) (t : ℕ) (c : Bool) (w : ℕ) → at ≡ lock_word d t → t < length d.segments → w ≤ length d.processes → ChangeFits d (write_word d m.copies at.extent.0 at.word c w)
  lock_set at t c w e l k = word_set at (lock_word d t) c w e (lock_change d t w l k)

  ran : (r : Running) → r.pid.0 < length d.processes → TurnWrites (runs d m p r)
  ran r l = cond_both (nat_le d.quantum r.used) _ _ TurnWrites (λ _. found r (m.cache p) cause.Quantum 0) (λ _. go (step_of d m.copies r (m.cache p)).outcome refl)
    where
      go : (o : Outcome) → (step_of d m.copies r (m.cache p)).outcome ≡ o → TurnWrites (after_step d m p r (step_of d m.copies r (m.cache p)) o)
      go outcome.Done e = tt
      go (outcome.Claim s) e =
          let new = subst (HeldBy d r (step_of d m.copies r (m.cache p)).running) e (step_held d m.copies r (m.cache p)).by in
          cond_both (is_taken (shape_of d) m.copies (lock_word d s.0) false) _ _ TurnWrites (λ _. waits r (Lock s (record { 0 = word_at m.copies (lock_word d s.0) false - 1 })))
          (λ _. lock_set (lock_word d s.0) s.0 false (suc r.pid.0) refl new.0 (omega (arith, l)))
      go (outcome.NeedsFlush c) e = found (step_of d m.copies r (m.cache p)).running (step_of d m.copies r (m.cache p)).cache c (released r.held c)
      go (outcome.Waits reason) e = waits r reason
      go outcome.Diverged e = tt

  -- a flush of process q by this processor
  module _ (r : Running) (c : Cause) (mask : ℕ) (l : r.pid.0 < length d.processes) (past : ArePastContexts d r.pid.0 (m.cache p).changes) where
    small : {q : ℕ} → q ≡ r.pid.0 → q < length d.processes
    small e = subst (λ x. x < length d.processes) (sym e) l

    names : {h : Holder} → h ≡ holder_is p (m.incarnation p) → h.pe.0 < d.processors
    names e = subst (λ (x : Holder). x.pe.0 < d.processors) (sym e) there

    put : {S : Type 0} (f : Flush S) (shadow : Bool) (i : ℕ) → f.pid.0 ≡ r.pid.0 → ContextBlocksFit d f.context → i < length (m.cache p).changes + 8
        → ChangeFits d (write_block d m.copies (unit_at (units f (m.cache p).changes) i).extent.0 (unit_at (units f (m.cache p).changes) i).place shadow (unit_at (units f (m.cache p).changes) i).block)
    put f shadow i e context below = block_set _ _ shadow _ (unit_writes d f.pid.0 f.context (m.cache p).changes i (small e) context (subst (λ q. ArePastContexts d q (m.cache p).changes) (sym e) past) whole below)

    flushed : (f : FlushAt) → IsFlushAt p (m.incarnation p) r.pid.0 f → FlushAtFits d (m.cache p).changes f → Does (flush_move d m p r c mask f)
    flushed (flush.Mark f) is at = let fits = status_fits d (status.Pass1 f.holder) few (names is.holder) in
        cond_both (f.cursor == 0) _ _ Does (λ _. says f.pid.0 false (status.Pass1 f.holder) (small is.process) fits) (λ _. says f.pid.0 true (status.Pass1 f.holder) (small is.process) fits)
    flushed (flush.First f) is at = cond_both (nat_le (unit_count m p f) f.cursor) _ _ Does
        (λ _. says f.pid.0 false (status.Pass2 f.holder) (small is.process) (status_fits d (status.Pass2 f.holder) few (names is.holder)))
        (λ t. put f false f.cursor is.process at.context (units_more f.pid.0 f.context (m.cache p).changes f.cursor t))
    flushed (flush.Second f) is at = cond_both (f.cursor == 0) _ _ Does
        (λ _. says f.pid.0 true (status.Pass2 f.holder) (small is.process) (status_fits d (status.Pass2 f.holder) few (names is.holder)))
        (λ t. put f true (f.cursor - 1) is.process at.context (let some = eqb-false f.cursor 0 t in omega (arith, some, at.cursor)))
    flushed (flush.Close f) is at = let fits = status_fits d (status.Run f.holder) few (names is.holder) in
        cond_both (f.cursor == 0) _ _ Does (λ _. says f.pid.0 false (status.Run f.holder) (small is.process) fits) (λ _. says f.pid.0 true (status.Run f.holder) (small is.process) fits)

  recovered : (r : RecoveryAt) → IsHand d p (m.incarnation p) (hand.Recovering r) → RecoveryAtFits d r → Does (recovery_move d m p r)
  recovered (recovery.Claimed r) is at = let k = subst (λ (x : Holder). x.pe.0 < d.processors) (sym is.holder) there in
      cond_both (r.cursor == 0) _ _ Does (λ _. recovery_set r.pid.0 false r.forward r.holder at.process k) (λ _. recovery_set r.pid.0 true r.forward r.holder at.process k)
  recovered (recovery.Copying r) is at = over _
    where
      over : (o : Option (ℕ × ℕ)) → ChangeFits d (copied_over d m.copies r.forward o)
      over None = tt
      over (Some b) = block_set b.0 b.1 r.forward (m.copies.block b.0 b.1 (not r.forward)) (block_copied d m.copies words blocks b.0 b.1 (not r.forward))
  recovered (recovery.Locks r) is at = go (left_from d m.copies r.pid.0 r.cursor) refl
    where
      go : (o : Option ℕ) → left_from d m.copies r.pid.0 r.cursor ≡ o → Does (locks_cleared d m p r o)
      go (Some k) e = let b = (left_passes d m.copies r.pid.0 r.cursor k e).2 in lock_change d (k / 2) 0 (omega (arith, b)) (omega arith)
      go None e = tt
  recovered (recovery.Closing r) is at = cond_both (r.cursor == 0) _ _ Does (λ _. says r.pid.0 true status.Idle at.process free) (λ _. says r.pid.0 false status.Idle at.process free)

  pub turn_writes : (h : Hand) → IsHand d p (m.incarnation p) h → HandFits d h → HandHolds d (m.cache p).changes h → TurnWrites (turn d m p h)
  turn_writes hand.Down is fits holds = tt
  turn_writes hand.Seek is fits holds = go (copied_memory d m.copies)
    where
      go : (o : Option ℕ) → TurnWrites (seeks_or_copies d m p o)
      go (Some i) = copied i (someone_amid d m)
      go None = sought (deserted d m) refl
  turn_writes (hand.Claiming q c) is fits holds = cond_both (is_taken (shape_of d) m.copies c.at true) _ _ Does (λ _. tt)
      (λ _. word_set c.at (status_word q.0) true c.value is.place (subst (WordFits d q.0 0) (sym is.claimant) (status_change d q.0 (word_of (status.Run (holder m p))) holds (status_fits d (status.Run (holder m p)) few there))))
  turn_writes (hand.Running r) is fits holds = go (copied_memory d m.copies)
    where
      go : (o : Option ℕ) → TurnWrites (runs_or_copies d m p r o)
      go (Some i) = copied i (someone_amid d m)
      go None = ran r fits.0.within.process
  turn_writes (hand.Acquiring r t c) is fits holds = cond_both (is_taken (shape_of d) m.copies c.at true) _ _ TurnWrites (λ _. waits r (Lock t (record { 0 = word_at m.copies c.at true - 1 })))
      (λ _. lock_set c.at t.0 true c.value is.place fits.2.inside (let named = is.claimant in omega (arith, named, fits.0.within.process)))
  turn_writes (hand.Flushing r c mask f) is fits holds = flushed r c mask fits.0.within.process holds.1 f is holds.2
  turn_writes (hand.Unlocking r c mask (release.Shadow l)) is fits holds = lock_set l.at is.segment true 0 is.place (fits.2.inside is.segment is.bit) (omega arith)
  turn_writes (hand.Unlocking r c mask (release.Primary l)) is fits holds = lock_set l.at is.segment false 0 is.place (fits.2.inside is.segment is.bit) (omega arith)
  turn_writes (hand.Leaving q (release.Shadow l)) is fits holds = word_set l.at (status_word q.0) true 0 is (status_change d q.0 0 holds free)
  turn_writes (hand.Leaving q (release.Primary l)) is fits holds = word_set l.at (status_word q.0) false 0 is (status_change d q.0 0 holds free)
  turn_writes (hand.Recovering r) is fits holds = recovered r is holds
