-- An event raises incarnations and numbers of commits by one at most.
use Rattle.std.proofs.Common.{◌≡◌, ◌≢◌, ◌⊎◌, inl, inr, ℕ, suc, ◌+◌, ◌-◌, ◌*◌, ◌/◌, ◌%◌, ◌^◌, ◌<◌, ◌≤◌, Bool, true, false, not, ◌&&◌, ◌==◌, nat_lt, nat_le, Option, Some, None, List, [], length, slice_get, refl, ap, sym, ◌∙◌, subst, arith}
use Rattle.std.specs.Prelude.{slice_index, slice_index_or}
use Rattle.std.proofs.lemmas.Bool.{cond_both, cases_lt, eqb-false, leb-false}
use Rattle.std.proofs.lemmas.List.FromFn.{get_or-map-range_with_len}
use Rattle.seq_words.specs.Masks.{has_bit}
use Rattle.seq_words.specs.Blocks.{zero_block}
use Rattle.seq_words.specs.Description.{IsDescription}
use Rattle.seq_words.specs.declared.block.Block.{Block}
use Rattle.seq_words.specs.declared.names.Seg.{Seg}
use Rattle.seq_words.specs.declared.description.MachineDesc.{MachineDesc}
use Rattle.seq_words.specs.declared.events.Event.TheVariants as event
use Rattle.seq_words.specs.declared.kinds.Element.TheVariants as element
use Rattle.seq_words.specs.declared.half.Half.{Half}
use Rattle.seq_flat.specs.declared.state.End.{End}
use Rattle.seq_flat.specs.declared.state.End.TheVariants.{Live, Exited, Trapped}
use Rattle.seq_layout.specs.Places.{memory_of}
use Rattle.seq_layout.specs.Shapes.{shape_of, segment_extent, line_extent}
use Rattle.seq_layout.specs.Copies.{Copies, serves, first_block, first_copy}
use Rattle.seq_layout.specs.Units.{units_of as units_on}
use Rattle.seq_layout.specs.Contexts.{number_at, context_blocks, HasLengths}
use Rattle.seq_layout.specs.declared.units.Unit.{Unit as Part}
use Rattle.seq_layout.specs.declared.units.Unit.TheVariants.{Block as Of_block, Word as Of_word}
use Rattle.seq_layout.proofs.ContextsRead.{parts_are_numbered}
use Rattle.seq_process.specs.declared.running.Running.{Running}
use Rattle.seq_process.specs.Contexts.{end_of, saved}
use Rattle.seq_cache.specs.declared.change.Change.{Change as Changed}
use Rattle.seq_cache.specs.Changes.{Changes}
use Rattle.seq_locks.specs.Turns.{is_taken, word_at}
use Rattle.seq_flush.specs.declared.flush.Flush.{Flush}
use Rattle.seq_flush.specs.Turns.{units, unit_at, into_stage, no_change}
use Rattle.seq_flush.specs.Units.{units_of}
use Rattle.seq_flush.proofs.Numbered.{units_more, unit_changed, unit_context}
use Rattle.seq_kernel.specs.declared.outcomes.Cause.{Cause}
use Rattle.seq_kernel.specs.declared.outcomes.Cause.TheVariants as cause
use Rattle.seq_kernel.specs.declared.outcomes.Outcome.{Outcome}
use Rattle.seq_kernel.specs.declared.outcomes.Outcome.TheVariants as outcome
use Rattle.seq_kernel.specs.declared.outcomes.Reason.{Reason}
use Rattle.seq_kernel.specs.declared.outcomes.Reason.TheVariants.{Lock}
use Rattle.seq_kernel.specs.declared.outcomes.Note.TheVariants.{Found}
use Rattle.seq_kernel.specs.Steps.{step_of}
use Rattle.seq_kernel.specs.Kept.{KeepsBounds}
use Rattle.seq_kernel.specs.Bounds.{IsRunning, AreReadable}
use Rattle.seq_kernel.proofs.KeptSteps.{steps_keep_bounds}
use Rattle.seq_turns.specs.declared.hand.Hand.{Hand}
use Rattle.seq_turns.specs.declared.hand.Hand.TheVariants as hand
use Rattle.seq_turns.specs.declared.hand.FlushAt.{FlushAt}
use Rattle.seq_turns.specs.declared.hand.FlushAt.TheVariants as flush
use Rattle.seq_turns.specs.declared.hand.ReleaseAt.{ReleaseAt}
use Rattle.seq_turns.specs.declared.hand.ReleaseAt.TheVariants as release
use Rattle.seq_turns.specs.declared.hand.RecoveryAt.{RecoveryAt}
use Rattle.seq_turns.specs.declared.hand.RecoveryAt.TheVariants as recovery
use Rattle.seq_turns.specs.Functions.{lowest, update}
use Rattle.seq_turns.specs.Machines.{Machine, Change, Move, Turn, idles, blocks_after}
use Rattle.seq_io.specs.Changes.Change.{Unchanged, To_block, To_word}
use Rattle.seq_turns.specs.Machines.Turn.{Moves, Looks, Copies_unit, Stops}
use Rattle.seq_turns.specs.Reading.{lock_word, write_word, write_block, copied_memory, context_of}
use Rattle.seq_turns.specs.Causes.{agree, released, flushes, finds, follows, release_next, after_releases}
use Rattle.seq_turns.specs.Operations.{taken_up, acquires, committed, flush_move, less, unlock_move, leave_move, unit_count}
use Rattle.seq_recover.specs.Reading.{left_from}
use Rattle.seq_turns.specs.Recoveries.{copy_on, locks_cleared, copied_over, recovery_move, unit_taken, next_of, unit_copied}
use Rattle.seq_turns.specs.Processors.{is_free, looks, deserted, seeks, acquisition, after_step, runs, someone_amid, copies_or_waits, seeks_or_copies, runs_or_copies, turn}
use Rattle.seq_turns.specs.Duties.{Duty, duty, tells_sent, takes, closes, goal, is_below, is_at, differs, may_send, rests}
use Rattle.seq_turns.specs.Events.{stopped, is_down, comes_back, strikes, after_turn}
use Rattle.seq_turns.proofs.Functions.{update_cases}
use Rattle.seq_stands.specs.Hands.{IsHand, IsFlushAt}
use Rattle.seq_stands.specs.FitHands.{ProcessFits, HandFits}
use Rattle.seq_stands.specs.FitBlocks.{IsPastContexts, ArePastContexts}
use Rattle.seq_stands.specs.Fit.{RunningFits, HandHolds, ProcessorFits, Fit}
use Rattle.seq_stands.specs.FitNumbers.{commits_in, commits_of, FlushBelow, HandBelow, NumbersBelow, NumbersGrow}
use Rattle.seq_stands.proofs.FitSteps.{StepFits, step_fits}
use Rattle.seq_stands.proofs.FitChanged.{copy_cases, zero_word}
use Rattle.seq_stands.proofs.Fitting.{fit_readable}

-- a context that is saved has one commit more
saved_commits : (r : Running) → RunningFits r → commits_in (slice_index_or (context_blocks (saved r r.pair.a)) 4 zero_block) ≡ r.commits + 1
saved_commits r is = (parts_are_numbered (saved r r.pair.a) (record { registers = is.whole.first; reads = is.whole.reads; writes = is.whole.writes })).commits

-- a context that is read has those of its block 4
read_commits : (d : MachineDesc) (p : Copies) (q : ℕ) → (context_of d p q).commits ≡ commits_in (p.block q 4 (first_copy (shape_of d) p q))
unfolding context_of
read_commits d p q = ap commits_in (get_or-map-range_with_len (first_block (shape_of d) p q) 0 8 4 4 zero_block (omega arith) (omega arith))

zero_commits : commits_in zero_block ≡ 0
zero_commits = omega (arith, zero_word 24, zero_word 28)

-- a block that is changed, as block k of an extent
abbrev ChangeBelow : ℕ → MachineDesc → Change → Type 0
ChangeBelow n d Unchanged = Unit {0}
ChangeBelow n d (To_block e k c b) = e < length d.processes → k ≡ 4 → commits_in b < n
ChangeBelow n d (To_word e k c w) = Unit {0}

-- what is below a number is below the next
flush_grows : (n : ℕ) (f : FlushAt) → FlushBelow n f → FlushBelow (suc n) f
flush_grows n (flush.Mark f) is = omega (arith, is)
flush_grows n (flush.First f) is = omega (arith, is)
flush_grows n (flush.Second f) is = omega (arith, is)
flush_grows n (flush.Close f) is = omega (arith, is)

hand_grows : (n : ℕ) (h : Hand) → HandBelow n h → HandBelow (suc n) h
hand_grows n hand.Down is = tt
hand_grows n hand.Seek is = tt
hand_grows n (hand.Claiming q c) is = tt
hand_grows n (hand.Running r) is = omega (arith, is)
hand_grows n (hand.Acquiring r t c) is = omega (arith, is)
hand_grows n (hand.Flushing r c mask f) is = (let k = is.0 in let l : r.commits < suc n = omega (arith, k) in l, flush_grows n f is.1)
hand_grows n (hand.Unlocking r c mask l) is = omega (arith, is)
hand_grows n (hand.Leaving q l) is = tt
hand_grows n (hand.Recovering r) is = tt

module _ (n : ℕ) (d : MachineDesc) (m : Machine) (described : IsDescription d) (fits : Fit d m) (below : NumbersBelow n d m) where
  grown : (q : ℕ) (c : Bool) → q < length d.processes → commits_in (m.copies.block q 4 c) < suc n
  grown q c l = let k = below.contexts q c l in omega (arith, k)

  blocks_below : (change : Change) → ChangeBelow (suc n) d change → (q : ℕ) (c : Bool) → q < length d.processes → commits_in (blocks_after change m.copies.block q 4 c) < suc n
  blocks_below Unchanged is q c l = grown q c l
  blocks_below (To_word e k c' w) is q c l = grown q c l
  blocks_below (To_block e k c' b) is q c l = copy_cases (λ _ _ x. commits_in x < suc n) m.copies.block e k c' b q 4 c (λ here at. is (subst (λ x. x < length d.processes) here l) (sym at)) (grown q c l)

  hands_grow : (p : ℕ) (h : Hand) → HandBelow (suc n) h → (r : ℕ) → r < d.processors → HandBelow (suc n) (update m.hand p h r)
  hands_grow p h is r l = update_cases (HandBelow (suc n)) m.hand p h r (λ _. is) (λ _. hand_grows n (m.hand r) (below.hands r l))

  still : (r : ℕ) → r < d.processors → m.incarnation r < suc n
  still r l = let k = below.incarnations r l in omega (arith, k)

  -- a machine with the same blocks
  hand_changes : (p : ℕ) (h : Hand) → HandBelow (suc n) h → NumbersBelow (suc n) d (record m { hand = update m.hand p h })
  hand_changes p h is = record { incarnations = still; contexts = grown; hands = hands_grow p h is }

  stays : NumbersBelow (suc n) d m
  stays = record { incarnations = still; contexts = grown; hands = λ p l. hand_grows n (m.hand p) (below.hands p l) }

  stop_grows : (p : ℕ) → p < d.processors → NumbersBelow (suc n) d (stopped m p)
  stop_grows p there = record {
    incarnations = λ r l. update_cases (λ x. x < suc n) m.incarnation p (suc (m.incarnation p)) r (λ _. let k = below.incarnations p there in omega (arith, k)) (λ _. still r l);
    contexts = grown;
    hands = hands_grow p hand.Down tt;
  }

  -- one copy is taken from the other
  copied_below : (e k : ℕ) (c : Bool) → e < length d.processes → k ≡ 4 → commits_in (m.copies.block e k c) < suc n
  copied_below e k c l at = subst (λ x. commits_in (m.copies.block e x c) < suc n) (sym at) (grown e c l)

  taken_below : (i : ℕ) (u : Option Part) → ChangeBelow (suc n) d (unit_taken d m.copies i u)
  taken_below i None = tt
  taken_below i (Some (Of_block e k)) = copied_below e.0 k (not (copy_on d i e.0))
  taken_below i (Some (Of_word w)) = tt

  module _ (p : ℕ) (there : p < d.processors) where
    now : ProcessorFits d p (m.incarnation p) (m.hand p) (m.cache p) (m.scan p)
    now = fits.processors p there

    abbrev Does : Move → Type 0
    Does move = HandBelow (suc n) move.hand × ChangeBelow (suc n) d move.change

    abbrev TurnBelow : Turn → Type 0
    TurnBelow (Moves move) = HandBelow (suc n) move.hand × ChangeBelow (suc n) d move.change
    TurnBelow (Looks next move) = HandBelow (suc n) move.hand × ChangeBelow (suc n) d move.change
    TurnBelow (Copies_unit i) = Unit {0}
    TurnBelow Stops = Unit {0}

    word_set : (e k : ℕ) (c : Bool) (w : ℕ) → ChangeBelow (suc n) d (write_word d m.copies e k c w)
    word_set e k c w = cond_both (serves (shape_of d) m.copies e c) (To_word e k c w) Unchanged (ChangeBelow (suc n) d) (λ _. tt) (λ _. tt)

    block_set : (e k : ℕ) (c : Bool) (b : Block) → (e < length d.processes → k ≡ 4 → commits_in b < suc n) → ChangeBelow (suc n) d (write_block d m.copies e k c b)
    block_set e k c b is = cond_both (serves (shape_of d) m.copies e c) (To_block e k c b) Unchanged (ChangeBelow (suc n) d) (λ _. is) (λ _. tt)

    follows_below : (r : Running) (c : Cause) (mask : ℕ) → r.commits < suc n → HandBelow (suc n) (follows d r c mask)
    follows_below r c mask is = next (lowest (has_bit mask) 16)
      where
        after : (c : Cause) → HandBelow (suc n) (after_releases r c)
        after (cause.Release t) = is
        after cause.Exit = tt
        after cause.Trap = tt
        after cause.Commit = is
        after cause.Yield = tt
        after (cause.Wait reason) = tt
        after cause.Room = is
        after cause.Quantum = tt

        next : (o : Option ℕ) → HandBelow (suc n) (release_next d r c mask o)
        next (Some t) = is
        next None = after c

    found : (r : Running) (cache : Changes) (c : Cause) (mask : ℕ) → RunningFits r → r.commits < n → TurnBelow (finds d m p r cache c mask)
    found r cache c mask whole is =
        let one : r.commits < suc n = omega (arith, is) in
        let context = saved_commits r whole in
        cond_both (r.steps == 0) _ _ TurnBelow (λ _. (follows_below r c mask one, tt))
        (λ _. cond_both (agree r.pair) (Moves (record (idles m p) { hand = flushes m p r c mask; cache = cache; note = Found r.pid c })) Stops TurnBelow (λ _. ((one, subst (λ x. x < suc n) (sym context) (omega (arith, is))), tt)) (λ _. tt))

    acquired : (r : Running) (t : Seg) → RunningFits r → r.commits < n → TurnBelow (acquisition d m p r t)
    acquired r t whole is = cond_both (is_taken (shape_of d) m.copies (lock_word d t.0) false) _ _ TurnBelow
        (λ _. found r (m.cache p) (cause.Wait (Lock t (record { 0 = word_at m.copies (lock_word d t.0) false - 1 }))) 0 whole is)
        (λ _. (let one : r.commits < suc n = omega (arith, is) in one, word_set (lock_word d t.0).extent.0 0 false (suc r.pid.0)))

    ran : (r : Running) → HandFits d (hand.Running r) → HandHolds d (m.cache p).changes (hand.Running r) → r.commits < n → TurnBelow (runs d m p r)
    ran r bounds holds is = cond_both (nat_le d.quantum r.used) _ _ TurnBelow (λ _. found r (m.cache p) cause.Quantum 0 holds.0 is) (λ left. stepped (leb-false d.quantum r.used left))
      where
        stepped : r.used < d.quantum → TurnBelow (after_step d m p r (step_of d m.copies r (m.cache p)) (step_of d m.copies r (m.cache p)).outcome)
        stepped left = go (step_of d m.copies r (m.cache p)).outcome
          where
            kept : KeepsBounds d r (m.cache p) (step_of d m.copies r (m.cache p))
            kept = steps_keep_bounds d m.copies r (m.cache p) described (fit_readable d m described fits) (record { within = bounds.0.within; live = bounds.1; left = left })

            next : StepFits (m.cache p) (step_of d m.copies r (m.cache p))
            next = step_fits d m.copies r (m.cache p) holds.0 now.cache.whole fits.blocks.whole

            same : (step_of d m.copies r (m.cache p)).running.commits < n
            same = subst (λ x. x < n) (sym kept.commits) is

            go : (o : Outcome) → TurnBelow (after_step d m p r (step_of d m.copies r (m.cache p)) o)
            go outcome.Done = (let l = same in omega (arith, l), tt)
            go (outcome.Claim s) = acquired r s holds.0 is
            go (outcome.NeedsFlush c) = found (step_of d m.copies r (m.cache p)).running (step_of d m.copies r (m.cache p)).cache c (released r.held c) next.running same
            go (outcome.Waits reason) = found r (m.cache p) (cause.Wait reason) 0 holds.0 is
            go outcome.Diverged = tt

    copied : (h : Hand) → m.hand p ≡ h → HandBelow n h → (i : ℕ) (o : Option ℕ) → TurnBelow (copies_or_waits m p i o)
    copied h e is i (Some r) = (subst (HandBelow (suc n)) (sym e) (hand_grows n h is), tt)
    copied h e is i None = tt

    looked : m.hand p ≡ hand.Seek → Does (looks d m p (m.scan p))
    looked e = cond_both (is_free d m (m.scan p)) _ _ Does (λ _. (tt, word_set (m.scan p) 0 false _)) (λ _. (subst (HandBelow (suc n)) (sym e) tt, tt))

    sought : m.hand p ≡ hand.Seek → (o : Option ℕ) → TurnBelow (seeks d m p o)
    sought e (Some q) = (tt, word_set q 0 false _)
    sought e None = looked e

    -- a unit of a flush
    unit_below : {S : Type 0} (f : Flush S) (i : ℕ) → ArePastContexts d f.pid.0 (m.cache p).changes → f.pid.0 < length d.processes → commits_of f < n → i < length (m.cache p).changes + 8
        → (unit_at (units f (m.cache p).changes) i).extent.0 < length d.processes → (unit_at (units f (m.cache p).changes) i).place ≡ 4 → commits_in (unit_at (units f (m.cache p).changes) i).block < suc n
    unit_below f i past mine few inside = elim (cases_lt i (length (m.cache p).changes)) [
      | inl changed ↦ subst (λ (u : Changed). u.extent.0 < length d.processes → u.place ≡ 4 → commits_in u.block < suc n) (sym (unit_changed f.pid.0 f.context (m.cache p).changes i no_change changed)) (λ l at. absurd (apart _ (past i no_change changed) l at))
      | inr after ↦ subst (λ (u : Changed). u.extent.0 < length d.processes → u.place ≡ 4 → commits_in u.block < suc n) (sym (unit_context f.pid.0 f.context (m.cache p).changes i after inside))
          (λ l at. subst (λ k. commits_in (slice_index_or f.context k zero_block) < suc n) (sym at) (omega (arith, few)))
    ]
      where
        apart : (u : Changed) → IsPastContexts d f.pid.0 u → u.extent.0 < length d.processes → u.place ≡ 4 → ⊥
        apart u is l at = go is.past
          where
            go : ((u.extent.0 ≡ f.pid.0) × (8 ≤ u.place)) ⊎ ((t : ℕ) × (t < length d.segments) × (u.extent.0 ≡ segment_extent (shape_of d) t)) → ⊥
            go (inl x) = let b = x.1 in omega (arith, b, at)
            go (inr (t, b, e)) = omega (arith, e, l)

    module _ (r : Running) (c : Cause) (mask : ℕ) (few : r.commits < n) (known : r.pid.0 < length d.processes) (past : ArePastContexts d r.pid.0 (m.cache p).changes) where
      one : r.commits < suc n
      one = omega (arith, few)

      more : r.commits + 1 < suc n
      more = omega (arith, few)

      grows : {x : ℕ} → x < n → x < suc n
      grows l = omega (arith, l)

      put : {S : Type 0} (f : Flush S) (shadow : Bool) (i : ℕ) → f.pid.0 ≡ r.pid.0 → commits_of f < n → i < length (m.cache p).changes + 8
          → ChangeBelow (suc n) d (write_block d m.copies (unit_at (units f (m.cache p).changes) i).extent.0 (unit_at (units f (m.cache p).changes) i).place shadow (unit_at (units f (m.cache p).changes) i).block)
      put f shadow i e l inside = block_set _ _ shadow _ (unit_below f i (subst (λ q. ArePastContexts d q (m.cache p).changes) (sym e) past) (subst (λ q. q < length d.processes) (sym e) known) l inside)

      flushed : (f : FlushAt) → HandHolds d (m.cache p).changes (hand.Flushing r c mask f) → IsFlushAt p (m.incarnation p) r.pid.0 f → FlushBelow n f → Does (flush_move d m p r c mask f)
      flushed (flush.Mark f) holds is l = cond_both (f.cursor == 0) _ _ Does (λ _. ((one, grows l), word_set f.pid.0 0 false _)) (λ _. ((one, grows l), word_set f.pid.0 0 true _))
      flushed (flush.First f) holds is l = cond_both (nat_le (unit_count m p f) f.cursor) _ _ Does (λ _. ((more, grows l), word_set f.pid.0 0 false _))
          (λ t. ((one, grows l), put f false f.cursor is.process l (units_more f.pid.0 f.context (m.cache p).changes f.cursor t)))
      flushed (flush.Second f) holds is l = cond_both (f.cursor == 0) _ _ Does (λ _. ((one, grows l), word_set f.pid.0 0 true _))
          (λ t. (
            (one, cond_both (nat_le (unit_count m p f) f.cursor) (flush.Close (into_stage f (record {}))) (flush.Second (record f { cursor = f.cursor + 1 })) (FlushBelow (suc n)) (λ _. grows l) (λ _. grows l)),
            put f true (f.cursor - 1) is.process l (let some = eqb-false f.cursor 0 t in let most = holds.2.cursor in omega (arith, some, most)),
          ))
      flushed (flush.Close f) holds is l = cond_both (f.cursor == 0) _ _ Does (λ _. ((one, grows l), word_set f.pid.0 0 false _)) (λ _. (follows_below r c mask one, word_set f.pid.0 0 true _))

    recovered : (r : RecoveryAt) → Does (recovery_move d m p r)
    recovered (recovery.Claimed r) = cond_both (r.cursor == 0) _ _ Does (λ _. (tt, word_set r.pid.0 0 false _)) (λ _. (tt, word_set r.pid.0 0 true _))
    recovered (recovery.Copying r) = (tt, over _)
      where
        over : (o : Option (ℕ × ℕ)) → ChangeBelow (suc n) d (copied_over d m.copies r.forward o)
        over None = tt
        over (Some b) = block_set b.0 b.1 r.forward _ (copied_below b.0 b.1 (not r.forward))
    recovered (recovery.Locks r) = go (left_from d m.copies r.pid.0 r.cursor)
      where
        go : (o : Option ℕ) → Does (locks_cleared d m p r o)
        go (Some k) = (tt, tt)
        go None = (tt, tt)
    recovered (recovery.Closing r) = cond_both (r.cursor == 0) _ _ Does (λ _. (tt, word_set r.pid.0 0 true _)) (λ _. (tt, word_set r.pid.0 0 false _))

    turn_below : (h : Hand) → m.hand p ≡ h → HandFits d h → IsHand d p (m.incarnation p) h → HandHolds d (m.cache p).changes h → HandBelow n h → TurnBelow (turn d m p h)
    turn_below hand.Down e bounds own holds is = (subst (HandBelow (suc n)) (sym e) tt, tt)
    turn_below hand.Seek e bounds own holds is = go (copied_memory d m.copies)
      where
        go : (o : Option ℕ) → TurnBelow (seeks_or_copies d m p o)
        go (Some i) = copied hand.Seek e tt i (someone_amid d m)
        go None = sought e (deserted d m)
    turn_below (hand.Claiming q c) e bounds own holds is = cond_both (is_taken (shape_of d) m.copies c.at true) _ _ Does (λ _. (tt, tt))
        (λ _. (up (end_of (context_of d m.copies q.0)), word_set c.at.extent.0 c.at.word true c.value))
      where
        commits : (context_of d m.copies q.0).commits < suc n
        commits = subst (λ x. x < suc n) (sym (read_commits d m.copies q.0)) (grown q.0 (first_copy (shape_of d) m.copies q.0) holds)

        up : (x : End) → HandBelow (suc n) (taken_up d m q.0 x)
        up Live = commits
        up (Exited code) = tt
        up (Trapped code pc) = tt
    turn_below (hand.Running r) e bounds own holds is = go (copied_memory d m.copies)
      where
        go : (o : Option ℕ) → TurnBelow (runs_or_copies d m p r o)
        go (Some i) = copied (hand.Running r) e is i (someone_amid d m)
        go None = ran r bounds holds is
    turn_below (hand.Acquiring r t c) e bounds own holds is = cond_both (is_taken (shape_of d) m.copies c.at true) _ _ TurnBelow
        (λ _. found r (m.cache p) (cause.Wait (Lock t (record { 0 = word_at m.copies c.at true - 1 }))) 0 holds.0 is) (λ _. (let one : r.commits < suc n = omega (arith, is) in one, word_set c.at.extent.0 c.at.word true c.value))
    turn_below (hand.Flushing r c mask f) e bounds own holds is = flushed r c mask is.0 bounds.0.within.process holds.1 f holds own is.1
    turn_below (hand.Unlocking r c mask (release.Shadow l)) e bounds own holds is = (let one : r.commits < suc n = omega (arith, is) in one, word_set l.at.extent.0 l.at.word true 0)
    turn_below (hand.Unlocking r c mask (release.Primary l)) e bounds own holds is = (follows_below r c (less d mask l.at) (omega (arith, is)), word_set l.at.extent.0 l.at.word false 0)
    turn_below (hand.Leaving q (release.Shadow l)) e bounds own holds is = (tt, word_set l.at.extent.0 l.at.word true 0)
    turn_below (hand.Leaving q (release.Primary l)) e bounds own holds is = (tt, word_set l.at.extent.0 l.at.word false 0)
    turn_below (hand.Recovering r) e bounds own holds is = recovered r

    turn_grows : (t : Turn) → TurnBelow t → NumbersBelow (suc n) d (after_turn d m p t)
    turn_grows (Moves move) k = record { incarnations = still; contexts = blocks_below move.change k.1; hands = hands_grow p move.hand k.0 }
    turn_grows (Looks next move) k = record { incarnations = still; contexts = blocks_below move.change k.1; hands = hands_grow p move.hand k.0 }
    turn_grows (Copies_unit i) k = record {
      incarnations = still;
      contexts = blocks_below (unit_taken d m.copies i (slice_get (units_on (shape_of d) i) (next_of (m.copies.state i)))) (taken_below i (slice_get (units_on (shape_of d) i) (next_of (m.copies.state i))));
      hands = λ r l. hand_grows n (m.hand r) (below.hands r l);
    }
    turn_grows Stops k = stop_grows p there

  -- a duty changes no context
  module _ (l : ℕ) where
    abbrev Serves : Duty → Type 0
    Serves done = ChangeBelow (suc n) d done.change

    closes_below : Serves (closes d m l)
    closes_below =
        cond_both (not (m.port l).closed) _ _ Serves (λ _. tt) (λ _.
        cond_both (is_at d m.copies l 1 false 0) _ _ Serves (λ _. tt) (λ _.
        cond_both (is_at d m.copies l 1 true 0) _ _ Serves (λ _. tt) (λ _. tt)))

    takes_below : (at byte : ℕ) → Serves (takes d m l at byte)
    takes_below at byte =
        cond_both (is_at d m.copies l 0 false at && differs d m.copies l false at byte) _ _ Serves (λ _ low at. absurd (let x : ⊥ = omega (arith, low) in x)) (λ _.
        cond_both (is_at d m.copies l 0 true at && differs d m.copies l true at byte) _ _ Serves (λ _ low at. absurd (let x : ⊥ = omega (arith, low) in x)) (λ _.
        cond_both (is_at d m.copies l 0 false at) _ _ Serves (λ _. tt) (λ _.
        cond_both (is_at d m.copies l 0 true at) _ _ Serves (λ _. tt) (λ _. tt))))

    tells_below : Serves (tells_sent d m l)
    tells_below =
        cond_both (is_below d m.copies l 2 false (goal d m l)) _ _ Serves (λ _. tt) (λ _.
        cond_both (is_below d m.copies l 2 true (goal d m l)) _ _ Serves (λ _. tt) (λ _.
        cond_both (nat_lt (m.port l).taken (m.port l).arrived) _ _ Serves (λ _. takes_below (m.port l).taken (slice_index (m.port l).store (m.port l).taken)) (λ _. closes_below)))

    duty_below : Serves (duty d m l)
    duty_below = cond_both (may_send d m l) _ _ Serves (λ _. tt) (λ _. tells_below)

struck_below : (n : ℕ) (half : Half) (reg mask : ℕ) (h : Hand) → HandBelow n h → HandBelow n (strikes half reg mask h)
struck_below n half reg mask hand.Down is = tt
struck_below n half reg mask hand.Seek is = tt
struck_below n half reg mask (hand.Claiming q c) is = tt
struck_below n half reg mask (hand.Running r) is = is
struck_below n half reg mask (hand.Acquiring r t c) is = is
struck_below n half reg mask (hand.Flushing r c held f) is = is
struck_below n half reg mask (hand.Unlocking r c held l) is = is
struck_below n half reg mask (hand.Leaving q l) is = tt
struck_below n half reg mask (hand.Recovering r) is = tt

back_below : (n : ℕ) (h : Hand) → HandBelow n h → HandBelow n (comes_back h)
back_below n hand.Down is = tt
back_below n hand.Seek is = tt
back_below n (hand.Claiming q c) is = tt
back_below n (hand.Running r) is = is
back_below n (hand.Acquiring r t c) is = is
back_below n (hand.Flushing r c held f) is = is
back_below n (hand.Unlocking r c held l) is = is
back_below n (hand.Leaving q l) is = tt
back_below n (hand.Recovering r) is = tt

pub numbers_grow : NumbersGrow
numbers_grow n d m (event.Processor p) described ok fits below =
    let now = fits.processors p.0 ok in
    turn_grows n d m described fits below p.0 ok (turn d m p.0 (m.hand p.0)) (turn_below n d m described fits below p.0 ok (m.hand p.0) refl now.bounds now.own now.holds (below.hands p.0 ok))
numbers_grow n d m (event.Io i) described ok fits below = cond_both (rests d m i.0) _ _ (NumbersBelow (suc n) d) (λ _. stays n d m described fits below) (λ _. record {
  incarnations = still n d m described fits below;
  contexts = blocks_below n d m described fits below (duty d m (m.io i.0).cursor).change (duty_below n d m described fits below (m.io i.0).cursor);
  hands = λ p l. hand_grows n (m.hand p) (below.hands p l);
})
numbers_grow n d m (event.Input l byte) described ok fits below = let is = stays n d m described fits below in record { incarnations = is.incarnations; contexts = is.contexts; hands = is.hands }
numbers_grow n d m (event.Close l) described ok fits below = let is = stays n d m described fits below in record { incarnations = is.incarnations; contexts = is.contexts; hands = is.hands }
numbers_grow n d m (event.Fail (element.Processor p)) described ok fits below = cond_both (is_down (m.hand p.0)) _ _ (NumbersBelow (suc n) d) (λ _. stays n d m described fits below) (λ _. stop_grows n d m described fits below p.0 ok)
numbers_grow n d m (event.Fail (element.Memory i)) described ok fits below = record {
  incarnations = still n d m described fits below;
  contexts = λ q c l. cond_both (memory_of d.memories q c == i.0) zero_block (m.copies.block q 4 c) (λ b. commits_in b < suc n) (λ _. let none = zero_commits in omega (arith, none)) (λ _. grown n d m described fits below q c l);
  hands = λ p l. hand_grows n (m.hand p) (below.hands p l);
}
numbers_grow n d m (event.Fail (element.Io i)) described ok fits below = let is = stays n d m described fits below in record { incarnations = is.incarnations; contexts = is.contexts; hands = is.hands }
numbers_grow n d m (event.Repair (element.Processor p)) described ok fits below = hand_changes n d m described fits below p.0 (comes_back (m.hand p.0)) (back_below (suc n) (m.hand p.0) (hand_grows n (m.hand p.0) (below.hands p.0 ok.0)))
numbers_grow n d m (event.Repair (element.Memory i)) described ok fits below = let is = stays n d m described fits below in record { incarnations = is.incarnations; contexts = is.contexts; hands = is.hands }
numbers_grow n d m (event.Repair (element.Io i)) described ok fits below = let is = stays n d m described fits below in record { incarnations = is.incarnations; contexts = is.contexts; hands = is.hands }
numbers_grow n d m (event.Upset p half reg mask) described ok fits below =
    hand_changes n d m described fits below p.0 (strikes half reg mask (m.hand p.0)) (struck_below (suc n) half reg mask (m.hand p.0) (hand_grows n (m.hand p.0) (below.hands p.0 ok.processor)))
numbers_grow n d m (event.Hangup l) described ok fits below = let is = stays n d m described fits below in record { incarnations = is.incarnations; contexts = is.contexts; hands = is.hands }
