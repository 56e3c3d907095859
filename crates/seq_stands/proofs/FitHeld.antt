-- Every turn of a processor leaves a hand that fits, and a cache.
use Rattle.std.proofs.Common.{◌≡◌, ◌⊎◌, inl, inr, ℕ, zero, suc, ◌+◌, ◌-◌, ◌*◌, ◌^◌, ◌<◌, ◌≤◌, Bool, true, false, ◌==◌, nat_le, All, List, Option, Some, None, [], length, refl, ap, sym, ◌∙◌, subst, arith}
use Rattle.std.specs.Prelude.{sum}
use Rattle.std.proofs.lemmas.Bool.{cond_both, true≢false, eqb-true, leb-true, leb-false}
use Rattle.std.proofs.lemmas.List.Elements.{All-nil}
use Rattle.seq_words.specs.Masks.{has_bit}
use Rattle.seq_words.specs.Description.{IsDescription}
use Rattle.seq_words.specs.declared.description.MachineDesc.{MachineDesc}
use Rattle.seq_words.specs.declared.names.Seg.{Seg}
use Rattle.seq_words.specs.declared.names.Pid.{Pid}
use Rattle.seq_layout.specs.Shapes.{shape_of, segment_extent, blocks_of}
use Rattle.seq_layout.specs.Copies.{Copies}
use Rattle.seq_layout.specs.Contexts.{context_blocks}
use Rattle.seq_flat.specs.declared.state.End.{End}
use Rattle.seq_flat.specs.declared.state.End.TheVariants.{Live, Exited, Trapped}
use Rattle.seq_process.specs.declared.running.Running.{Running}
use Rattle.seq_process.specs.Contexts.{started, end_of, saved}
use Rattle.seq_cache.specs.declared.change.Change.{Change}
use Rattle.seq_cache.specs.Changes.{Changes, IsCache}
use Rattle.seq_locks.specs.Turns.{is_taken, word_at}
use Rattle.seq_locks.specs.declared.claim.Claim.{Claim}
use Rattle.seq_locks.specs.declared.stages.Shadow.{Shadow}
use Rattle.seq_flush.specs.declared.flush.Flush.{Flush}
use Rattle.seq_flush.specs.Turns.{into_stage}
use Rattle.seq_flush.proofs.Numbered.{units_more, length_units}
use Rattle.seq_kernel.specs.declared.outcomes.Cause.{Cause}
use Rattle.seq_kernel.specs.declared.outcomes.Cause.TheVariants as cause
use Rattle.seq_kernel.specs.declared.outcomes.Outcome.{Outcome}
use Rattle.seq_kernel.specs.declared.outcomes.Outcome.TheVariants as outcome
use Rattle.seq_kernel.specs.declared.outcomes.Reason.{Reason}
use Rattle.seq_kernel.specs.declared.outcomes.Reason.TheVariants.{Lock}
use Rattle.seq_kernel.specs.declared.outcomes.Note.TheVariants.{Found}
use Rattle.seq_kernel.specs.Turns.{Turned}
use Rattle.seq_kernel.specs.Steps.{step_of}
use Rattle.seq_kernel.specs.Calls.{granted}
use Rattle.seq_kernel.specs.Counted.{IsCounted, goes_on}
use Rattle.seq_kernel.specs.Refinement.{takes_step}
use Rattle.seq_kernel.specs.Kept.{KeepsBounds, KeepsCache, IsOwn, AreOwn, keeps_segments}
use Rattle.seq_kernel.specs.Bounds.{IsRunning, AreReadable}
use Rattle.seq_kernel.proofs.CountedTurns.{turns_are_counted}
use Rattle.seq_kernel.proofs.KeptRunning.{grants_keep_bounds}
use Rattle.seq_kernel.proofs.KeptSteps.{steps_keep_bounds, steps_keep_cache}
use Rattle.seq_turns.specs.declared.hand.Hand.{Hand}
use Rattle.seq_turns.specs.declared.hand.Hand.TheVariants as hand
use Rattle.seq_turns.specs.declared.hand.FlushAt.{FlushAt}
use Rattle.seq_turns.specs.declared.hand.FlushAt.TheVariants as flush
use Rattle.seq_turns.specs.declared.hand.ReleaseAt.{ReleaseAt}
use Rattle.seq_turns.specs.declared.hand.ReleaseAt.TheVariants as release
use Rattle.seq_turns.specs.Functions.{lowest}
use Rattle.seq_turns.specs.Machines.{Machine, Move, Turn, idles}
use Rattle.seq_turns.specs.Machines.Turn.{Moves, Looks, Copies_unit, Stops}
use Rattle.seq_turns.specs.Reading.{lock_word, context_of, copied_memory}
use Rattle.seq_turns.specs.Causes.{agree, released, flushes, finds, follows, release_next, after_releases}
use Rattle.seq_turns.specs.Operations.{taken_up, acquires, claims, committed, flush_move, less, unlock_move, leave_move, unit_count}
use Rattle.seq_turns.specs.Processors.{acquisition, after_step, runs}
use Rattle.seq_turns.proofs.Functions.{lowest_passes}
use Rattle.seq_turns.proofs.Read.{agreeing_is_equal}
use Rattle.seq_stands.specs.Hands.{IsFlushAt}
use Rattle.seq_stands.proofs.LockSteps.{HeldBy, step_held, no_bit}
use Rattle.seq_stands.specs.FitHands.{ProcessFits, GoesOn}
use Rattle.seq_stands.specs.FitBlocks.{BlocksFit, ContextBlocksFit, IsWholeBlock, IsPastContexts, ArePastContexts, AreWhole}
use Rattle.seq_stands.specs.Fit.{RunningFits, FlushFits, FlushAtFits, HandHolds}
use Rattle.seq_stands.proofs.FitSteps.{StepFits, step_fits, granted_fits}
use Rattle.seq_stands.proofs.FitSaved.{saved_fits, started_fits}

-- the process's own blocks are of no context
pub own_are_past : (d : MachineDesc) (r : Running) (changes : List Change) → ProcessFits d r → AreOwn d r changes → ArePastContexts d r.pid.0 changes
own_are_past d r changes fits own = λ k none lt. let is = own k none lt in record { place = is.place; past = past is.owned }
  where
    past : {e n : ℕ} → ((e ≡ r.pid.0) × (8 ≤ n)) ⊎ ((t : ℕ) × (has_bit r.held t ≡ true) × (e ≡ segment_extent (shape_of d) t)) → ((e ≡ r.pid.0) × (8 ≤ n)) ⊎ ((t : ℕ) × (t < length d.segments) × (e ≡ segment_extent (shape_of d) t))
    past (inl x) = inl x
    past (inr (t, b, e)) = inr (t, fits.within.held t b, e)

none_own : (d : MachineDesc) (r : Running) → AreOwn d r []
none_own d r = All-nil (IsOwn d r.pid.0 r.held)

none_whole : AreWhole []
none_whole = All-nil _

-- no segment is the lowest of none
none_lowest : (t : ℕ) → lowest (has_bit 0) 16 ≡ Some t → ⊥
none_lowest t e = true≢false (sym (lowest_passes (has_bit 0) 16 t e).0 ∙ no_bit t)

-- a process that runs on after this cause has its changes still
abbrev KeepsOwn : MachineDesc → Running → List Change → Cause → Type 0
KeepsOwn d r changes (cause.Release t) = AreOwn d r changes
KeepsOwn d r changes cause.Exit = Unit {0}
KeepsOwn d r changes cause.Trap = Unit {0}
KeepsOwn d r changes cause.Commit = AreOwn d r changes
KeepsOwn d r changes cause.Yield = Unit {0}
KeepsOwn d r changes (cause.Wait reason) = Unit {0}
KeepsOwn d r changes cause.Room = AreOwn d r changes
KeepsOwn d r changes cause.Quantum = Unit {0}

none_kept : (d : MachineDesc) (r : Running) (c : Cause) → KeepsOwn d r [] c
none_kept d r (cause.Release t) = none_own d r
none_kept d r cause.Exit = tt
none_kept d r cause.Trap = tt
none_kept d r cause.Commit = none_own d r
none_kept d r cause.Yield = tt
none_kept d r (cause.Wait reason) = tt
none_kept d r cause.Room = none_own d r
none_kept d r cause.Quantum = tt

module _ (d : MachineDesc) (described : IsDescription d) (m : Machine) (p : ℕ) (full : (m.cache p).capacity ≡ d.cache) (bytes : AreWhole (m.cache p).changes) where
  -- what a move leaves
  pub record MoveHolds (move : Move) : Type 0 where
    pub holds : HandHolds d move.cache.changes move.hand
    pub capacity : move.cache.capacity ≡ d.cache
    pub whole : AreWhole move.cache.changes

  abbrev pub TurnHolds : Turn → Type 0
  TurnHolds (Moves move) = MoveHolds move
  TurnHolds (Looks next move) = MoveHolds move × (next < length d.processes)
  TurnHolds (Copies_unit i) = copied_memory d m.copies ≡ Some i
  TurnHolds Stops = Unit {0}

  module _ (r : Running) (fits : ProcessFits d r) (is : RunningFits r) where
    after_holds : (changes : List Change) (c : Cause) → KeepsOwn d r changes c → HandHolds d changes (after_releases r c)
    after_holds changes (cause.Release t) own = (is, own)
    after_holds changes cause.Exit own = fits.within.process
    after_holds changes cause.Trap own = fits.within.process
    after_holds changes cause.Commit own = (is, own)
    after_holds changes cause.Yield own = fits.within.process
    after_holds changes (cause.Wait reason) own = fits.within.process
    after_holds changes cause.Room own = (is, own)
    after_holds changes cause.Quantum own = fits.within.process

    follows_holds : (changes : List Change) (c : Cause) (mask : ℕ) → ((t : ℕ) → lowest (has_bit mask) 16 ≡ Some t → changes ≡ []) → KeepsOwn d r changes c → HandHolds d changes (follows d r c mask)
    follows_holds changes c mask empty own = next (lowest (has_bit mask) 16) refl
      where
        next : (o : Option ℕ) → lowest (has_bit mask) 16 ≡ o → HandHolds d changes (release_next d r c mask o)
        next (Some t) e = (is, empty t e)
        next None e = after_holds changes c own

    -- with these changes, where either no step was taken or the flush is begun
    pub found : (cache : Changes) (c : Cause) (mask : ℕ) → cache.capacity ≡ d.cache → AreWhole cache.changes → ArePastContexts d r.pid.0 cache.changes
        → (r.steps ≡ 0 → ((t : ℕ) → lowest (has_bit mask) 16 ≡ Some t → cache.changes ≡ []) × KeepsOwn d r cache.changes c) → TurnHolds (finds d m p r cache c mask)
    found cache c mask capacity all past idle = cond_both (r.steps == 0) _ _ TurnHolds
        (λ t. let still = idle (eqb-true r.steps 0 t) in record { holds = follows_holds cache.changes c mask still.0 still.1; capacity = capacity; whole = all })
        (λ _. cond_both (agree r.pair) (Moves (record (idles m p) { hand = flushes m p r c mask; cache = cache; note = Found r.pid c })) Stops TurnHolds
        (λ t. record {
          holds = (is, past, record { context = saved_fits d described r fits is ((agreeing_is_equal r.pair).0 t); cursor = omega arith });
          capacity = capacity;
          whole = all;
        })
        (λ _. tt))

    -- it waits, or its quantum is over
    leaves : (c : Cause) → AreOwn d r (m.cache p).changes → KeepsOwn d r (m.cache p).changes c → TurnHolds (finds d m p r (m.cache p) c 0)
    leaves c own kept = found (m.cache p) c 0 full bytes (own_are_past d r (m.cache p).changes fits own) (λ _. (λ t e. absurd (none_lowest t e), kept))

  module _ (r : Running) (fits : ProcessFits d r) (is : RunningFits r) where
    module _ (live : r.end ≡ Live) (own : AreOwn d r (m.cache p).changes) where
      pub acquired : (t : Seg) → TurnHolds (acquisition d m p r t)
      acquired t = cond_both (is_taken (shape_of d) m.copies (lock_word d t.0) false) _ _ TurnHolds
          (λ _. leaves r fits is (cause.Wait (Lock t (record { 0 = word_at m.copies (lock_word d t.0) false - 1 }))) own tt) (λ _. record { holds = (is, own); capacity = full; whole = bytes })

      -- after a step was taken, so that the flush is begun
      module _ (t : Turned) (c : Cause) (bounds : KeepsBounds d r (m.cache p) t) (kept : KeepsCache d r (m.cache p) t) (counted : IsCounted d r (m.cache p) t) (next : StepFits (m.cache p) t) (e : t.outcome ≡ outcome.NeedsFlush c) where
        after : ProcessFits d t.running
        after = record { within = bounds.within; zeros = bounds.zeros fits.zeros }

        past : ArePastContexts d t.running.pid.0 t.cache.changes
        past = subst (λ (q : Pid). ArePastContexts d q.0 t.cache.changes) (sym bounds.process) (own_are_past d r t.cache.changes fits (kept.held_before own))

        began : (mask : ℕ) → (t.running.steps ≡ 0 → ((s : ℕ) → lowest (has_bit mask) 16 ≡ Some s → t.cache.changes ≡ []) × KeepsOwn d t.running t.cache.changes c) → TurnHolds (finds d m p t.running t.cache c mask)
        began mask idle = found t.running after next.running t.cache c mask (next.capacity ∙ full) next.blocks past idle

        taken : (mask : ℕ) → takes_step (outcome.NeedsFlush c) → TurnHolds (finds d m p t.running t.cache c mask)
        taken mask step = began mask (λ none. absurd (let one = counted.steps (subst takes_step (sym e) step) in let x : ⊥ = omega (arith, one, none) in x))

      needs : (t : Turned) (c : Cause) → KeepsBounds d r (m.cache p) t → KeepsCache d r (m.cache p) t → IsCounted d r (m.cache p) t → StepFits (m.cache p) t → t.outcome ≡ outcome.NeedsFlush c → TurnHolds (finds d m p t.running t.cache c (released r.held c))
      needs t (cause.Release s) bounds kept counted next e = taken t (cause.Release s) bounds kept counted next e (released r.held (cause.Release s)) tt
      needs t cause.Exit bounds kept counted next e = taken t cause.Exit bounds kept counted next e (released r.held cause.Exit) tt
      needs t cause.Trap bounds kept counted next e = taken t cause.Trap bounds kept counted next e (released r.held cause.Trap) tt
      needs t cause.Commit bounds kept counted next e = taken t cause.Commit bounds kept counted next e 0 tt
      needs t cause.Yield bounds kept counted next e = taken t cause.Yield bounds kept counted next e 0 tt
      needs t (cause.Wait reason) bounds kept counted next e = taken t (cause.Wait reason) bounds kept counted next e 0 tt
      needs t cause.Room bounds kept counted next e = began t cause.Room bounds kept counted next e 0 (λ _. (λ s f. absurd (none_lowest s f), kept.own (subst keeps_segments (sym e) tt) own))
      needs t cause.Quantum bounds kept counted next e = taken t cause.Quantum bounds kept counted next e 0 tt

      pub ran : AreReadable d m.copies → ((e n : ℕ) (c : Bool) → IsWholeBlock (m.copies.block e n c)) → TurnHolds (runs d m p r)
      ran readable blocks = cond_both (nat_le d.quantum r.used) _ _ TurnHolds (λ _. leaves r fits is cause.Quantum own tt) (λ left. stepped (leb-false d.quantum r.used left))
        where
          stepped : r.used < d.quantum → TurnHolds (after_step d m p r (step_of d m.copies r (m.cache p)) (step_of d m.copies r (m.cache p)).outcome)
          stepped left = go (step_of d m.copies r (m.cache p)).outcome refl
            where
              running : IsRunning d r
              running = record { within = fits.within; live = live; left = left }

              bounds : KeepsBounds d r (m.cache p) (step_of d m.copies r (m.cache p))
              bounds = steps_keep_bounds d m.copies r (m.cache p) described readable running

              kept : KeepsCache d r (m.cache p) (step_of d m.copies r (m.cache p))
              kept = steps_keep_cache d m.copies r (m.cache p) described readable running

              next : StepFits (m.cache p) (step_of d m.copies r (m.cache p))
              next = step_fits d m.copies r (m.cache p) is bytes blocks

              go : (o : Outcome) → (step_of d m.copies r (m.cache p)).outcome ≡ o → TurnHolds (after_step d m p r (step_of d m.copies r (m.cache p)) o)
              go outcome.Done e = record { holds = (next.running, kept.own (subst keeps_segments (sym e) tt) own); capacity = next.capacity ∙ full; whole = next.blocks }
              go (outcome.Claim s) e = acquired s
              go (outcome.NeedsFlush c) e = needs (step_of d m.copies r (m.cache p)) c bounds kept (turns_are_counted d m.copies r (m.cache p)) next e
              go (outcome.Waits reason) e = leaves r fits is (cause.Wait reason) own tt
              go outcome.Diverged e = tt

      -- the step of an acquire is taken, or the lock is taken
      pub claimed : (t : Seg) (c : Claim Shadow) → t.0 < length d.segments → has_bit r.held t.0 ≡ false → r.used < d.quantum → TurnHolds (acquires d m p r t c)
      claimed t c inside new left =
          let grant = grants_keep_bounds d r t.0 (record { within = fits.within; live = live; left = left }) inside new in
          cond_both (is_taken (shape_of d) m.copies c.at true) _ _ TurnHolds (λ _. leaves r fits is (cause.Wait (Lock t (record { 0 = word_at m.copies c.at true - 1 }))) own tt)
          (λ _. record { holds = (granted_fits r t.0 is, grant.own (m.cache p).changes own); capacity = full; whole = bytes })

    committed_fits : RunningFits (committed r)
    committed_fits = record { whole = record { first = is.whole.first; second = is.whole.second; reads = is.whole.reads; writes = is.whole.writes }; end = is.end }

    pub flushed : (c : Cause) (mask : ℕ) (f : FlushAt) → ArePastContexts d r.pid.0 (m.cache p).changes → FlushAtFits d (m.cache p).changes f → MoveHolds (flush_move d m p r c mask f)
    flushed c mask (flush.Mark f) past at = cond_both (f.cursor == 0) _ _ MoveHolds
        (λ _. record { holds = (is, past, record { context = at.context; cursor = omega arith }); capacity = full; whole = bytes })
        (λ _. record { holds = (is, past, record { context = at.context; cursor = omega arith }); capacity = full; whole = bytes })
    flushed c mask (flush.First f) past at = cond_both (nat_le (unit_count m p f) f.cursor) _ _ MoveHolds
        (λ _. record { holds = (committed_fits, past, record { context = at.context; cursor = omega arith }); capacity = full; whole = bytes })
        (λ t. let more = units_more f.pid.0 f.context (m.cache p).changes f.cursor t in record { holds = (is, past, record { context = at.context; cursor = omega (arith, more) }); capacity = full; whole = bytes })
    flushed c mask (flush.Second f) past at = cond_both (f.cursor == 0) _ _ MoveHolds
        (λ _. record { holds = (is, past, record { context = at.context; cursor = omega arith }); capacity = full; whole = bytes })
        (λ _. record {
          holds = (
            is,
            past,
            cond_both (nat_le (unit_count m p f) f.cursor) (flush.Close (into_stage f (record {}))) (flush.Second (record f { cursor = f.cursor + 1 })) (FlushAtFits d (m.cache p).changes)
                (λ _. record { context = at.context; cursor = omega arith })
                (λ t. let more = units_more f.pid.0 f.context (m.cache p).changes f.cursor t in record { context = at.context; cursor = omega (arith, more) }),
          );
          capacity = full;
          whole = bytes;
        })
    flushed c mask (flush.Close f) past at = cond_both (f.cursor == 0) _ _ MoveHolds
        (λ _. record { holds = (is, past, record { context = at.context; cursor = omega arith }); capacity = full; whole = bytes })
        (λ _. record { holds = follows_holds r fits is [] c mask (λ t e. refl) (none_kept d r c); capacity = full; whole = none_whole })

    pub unlocked : (c : Cause) (mask : ℕ) (l : ReleaseAt) → (m.cache p).changes ≡ [] → MoveHolds (unlock_move d m p r c mask l)
    unlocked c mask (release.Shadow l) empty = record { holds = (is, empty); capacity = full; whole = bytes }
    unlocked c mask (release.Primary l) empty = record {
      holds = follows_holds r fits is (m.cache p).changes c (less d mask l.at) (λ t e. empty) (subst (λ xs. KeepsOwn d r xs c) (sym empty) (none_kept d r c));
      capacity = full;
      whole = bytes;
    }

  pub left : (q : Pid) (l : ReleaseAt) → q.0 < length d.processes → MoveHolds (leave_move d m p q.0 l)
  left q (release.Shadow l) there = record { holds = there; capacity = full; whole = bytes }
  left q (release.Primary l) there = record { holds = tt; capacity = full; whole = bytes }

  pub taken_from : (q : Pid) (c : Claim Shadow) → BlocksFit d m.copies → q.0 < length d.processes → MoveHolds (claims d m p q.0 c)
  taken_from q c blocks there = cond_both (is_taken (shape_of d) m.copies c.at true) _ _ MoveHolds (λ _. record { holds = tt; capacity = full; whole = bytes })
      (λ _. record { holds = up (end_of (context_of d m.copies q.0)); capacity = full; whole = none_whole })
    where
      up : (x : End) → HandHolds d [] (taken_up d m q.0 x)
      up Live = (started_fits d m.copies q.0 blocks there (record { 0 = q.0 }), none_own d (started (record { 0 = q.0 }) (context_of d m.copies q.0)))
      up (Exited code) = there
      up (Trapped code pc) = there
