-- Every turn of a processor keeps hands and caches within their bounds.
use Rattle.std.proofs.Common.{◌≡◌, ◌⊎◌, inl, inr, ℕ, ◌+◌, ◌-◌, ◌^◌, ◌<◌, true, false, ◌==◌, nat_le, Option, Some, None, [], length, refl, ap, sym, ◌∙◌, subst, arith}
use Rattle.std.proofs.lemmas.Bool.{cond_both, cases_eq, true≢false, leb-false}
use Rattle.seq_words.specs.Masks.{has_bit}
use Rattle.seq_words.specs.Description.{IsDescription}
use Rattle.seq_words.specs.declared.description.MachineDesc.{MachineDesc}
use Rattle.seq_words.specs.declared.names.Seg.{Seg}
use Rattle.seq_layout.specs.Shapes.{shape_of, segment_extent}
use Rattle.seq_layout.specs.declared.units.WordAt.{WordAt}
use Rattle.seq_flat.specs.declared.state.End.{End}
use Rattle.seq_flat.specs.declared.state.End.TheVariants.{Live, Exited, Trapped}
use Rattle.seq_process.specs.declared.running.Running.{Running}
use Rattle.seq_process.specs.Contexts.{end_of}
use Rattle.seq_cache.specs.Changes.{Changes, IsCache}
use Rattle.seq_locks.specs.Turns.{is_taken}
use Rattle.seq_locks.specs.declared.claim.Claim.{Claim}
use Rattle.seq_locks.specs.declared.stages.Shadow.{Shadow}
use Rattle.seq_kernel.specs.declared.outcomes.Cause.{Cause}
use Rattle.seq_kernel.specs.declared.outcomes.Cause.TheVariants as cause
use Rattle.seq_kernel.specs.declared.outcomes.Outcome.{Outcome}
use Rattle.seq_kernel.specs.declared.outcomes.Outcome.TheVariants as outcome
use Rattle.seq_kernel.specs.Turns.{Turned}
use Rattle.seq_kernel.specs.Steps.{step_of}
use Rattle.seq_kernel.specs.Counted.{goes_on}
use Rattle.seq_kernel.specs.Kept.{KeepsBounds}
use Rattle.seq_kernel.specs.Bounds.{IsRunning, AreReadable}
use Rattle.seq_kernel.proofs.CountedTurns.{turns_are_counted}
use Rattle.seq_kernel.proofs.KeptRunning.{grants_keep_bounds}
use Rattle.seq_kernel.proofs.KeptSteps.{steps_keep_bounds, steps_keep_cache}
use Rattle.seq_kernel.proofs.RefineCallsBits.{bit_off_other}
use Rattle.seq_turns.specs.declared.hand.Hand.{Hand}
use Rattle.seq_turns.specs.declared.hand.Hand.TheVariants as hand
use Rattle.seq_turns.specs.declared.hand.FlushAt.{FlushAt}
use Rattle.seq_turns.specs.declared.hand.FlushAt.TheVariants as flush
use Rattle.seq_turns.specs.declared.hand.ReleaseAt.{ReleaseAt}
use Rattle.seq_turns.specs.declared.hand.ReleaseAt.TheVariants as release
use Rattle.seq_turns.specs.declared.hand.RecoveryAt.{RecoveryAt}
use Rattle.seq_turns.specs.declared.hand.RecoveryAt.TheVariants as recovery
use Rattle.seq_kernel.specs.declared.outcomes.Note.TheVariants.{Found}
use Rattle.seq_turns.specs.Functions.{lowest}
use Rattle.seq_turns.specs.Machines.{Machine, Move, Turn, idles}
use Rattle.seq_turns.specs.Machines.Turn.{Moves, Looks, Copies_unit, Stops}
use Rattle.seq_turns.specs.Reading.{lock_word, context_of, copied_memory}
use Rattle.seq_turns.specs.Causes.{agree, released, flushes, finds, follows, release_next, after_releases}
use Rattle.seq_turns.specs.Operations.{taken_up, acquires, committed, flush_move, less, unlock_move, leave_move, unit_count}
use Rattle.seq_recover.specs.Reading.{left_from}
use Rattle.seq_turns.specs.Recoveries.{locks_cleared, recovery_move}
use Rattle.seq_turns.specs.Processors.{is_free, looks, deserted, seeks, after_step, runs, someone_amid, copies_or_waits, seeks_or_copies, runs_or_copies, turn}
use Rattle.seq_stands.specs.Hands.{IsHand, IsLock}
use Rattle.seq_stands.proofs.LockSteps.{Steps, HeldBy, step_held, no_bit, or_second}
use Rattle.seq_stands.specs.FitHands.{ProcessFits, GoesOn, MaskFits, HandFits, TurnTakes}

pub empty_is : (c : Changes) → IsCache c → IsCache (record c { changes = [] })
empty_is c is = record { ascending = record { pairs = λ i j x lt within. absurd (let k : ⊥ = omega (arith, within) in k) }; fits = omega arith; small = is.small }

none_fits : (d : MachineDesc) → MaskFits d 0
none_fits d = record { inside = λ t b. absurd (true≢false (sym b ∙ no_bit t)) }

module _ (d : MachineDesc) (described : IsDescription d) (m : Machine) (p : ℕ) (cached : IsCache (m.cache p)) where
  abbrev MoveFits : Move → Type 0
  MoveFits move = HandFits d move.hand × IsCache move.cache

  -- what a turn leaves
  abbrev pub TurnFits : Turn → Type 0
  TurnFits (Moves move) = MoveFits move
  TurnFits (Looks next move) = MoveFits move
  TurnFits (Copies_unit i) = Unit {0}
  TurnFits Stops = Unit {0}

  follows_fits : (r : Running) (c : Cause) (mask : ℕ) → ProcessFits d r → GoesOn c r.end → MaskFits d mask → HandFits d (follows d r c mask)
  follows_fits r c mask fits on inside = next (lowest (has_bit mask) 16)
    where
      after : (c : Cause) → GoesOn c r.end → HandFits d (after_releases r c)
      after (cause.Release t) on = (fits, on)
      after cause.Exit on = tt
      after cause.Trap on = tt
      after cause.Commit on = (fits, on)
      after cause.Yield on = tt
      after (cause.Wait reason) on = tt
      after cause.Room on = (fits, on)
      after cause.Quantum on = tt

      next : (o : Option ℕ) → HandFits d (release_next d r c mask o)
      next (Some t) = (fits, on, inside)
      next None = after c on

  found : (r : Running) (cache : Changes) (c : Cause) (mask : ℕ) → ProcessFits d r → GoesOn c r.end → MaskFits d mask → IsCache cache → TurnFits (finds d m p r cache c mask)
  found r cache c mask fits on inside is = cond_both (r.steps == 0) _ _ TurnFits (λ _. (follows_fits r c mask fits on inside, is))
      (λ _. cond_both (agree r.pair) (Moves (record (idles m p) { hand = flushes m p r c mask; cache = cache; note = Found r.pid c })) Stops TurnFits (λ _. ((fits, on, inside), is)) (λ _. tt))

  -- it waits
  waits : (r : Running) (reason : _) → ProcessFits d r → TurnFits (finds d m p r (m.cache p) (cause.Wait reason) 0)
  waits r reason fits = found r (m.cache p) (cause.Wait reason) 0 fits tt (none_fits d) cached

  module _ (r : Running) (fits : ProcessFits d r) (live : r.end ≡ Live) where
    -- a segment that is to be released was held
    from_steps : (s : Running) (mask : ℕ) → Steps r s mask → MaskFits d mask
    from_steps s mask k = record { inside = λ t b. fits.within.held t (sym (k.held t) ∙ or_second _ _ b) }

    released_fits : (s : Running) (c : Cause) → HeldBy d r s (outcome.NeedsFlush c) → MaskFits d (released r.held c)
    released_fits s (cause.Release t) k = from_steps s _ k
    released_fits s cause.Exit k = from_steps s _ k
    released_fits s cause.Trap k = from_steps s _ k
    released_fits s cause.Commit k = from_steps s _ k
    released_fits s cause.Yield k = from_steps s _ k
    released_fits s (cause.Wait reason) k = from_steps s _ k
    released_fits s cause.Room k = none_fits d
    released_fits s cause.Quantum k = from_steps s _ k

    ran : AreReadable d m.copies → TurnFits (runs d m p r)
    ran readable = cond_both (nat_le d.quantum r.used) _ _ TurnFits (λ _. found r (m.cache p) cause.Quantum 0 fits tt (none_fits d) cached) (λ left. stepped (leb-false d.quantum r.used left))
      where
        stepped : r.used < d.quantum → TurnFits (after_step d m p r (step_of d m.copies r (m.cache p)) (step_of d m.copies r (m.cache p)).outcome)
        stepped left = go t.outcome refl
          where
            t : Turned
            t = step_of d m.copies r (m.cache p)

            is : IsRunning d r
            is = record { within = fits.within; live = live; left = left }

            bounds : KeepsBounds d r (m.cache p) (step_of d m.copies r (m.cache p))
            bounds = steps_keep_bounds d m.copies r (m.cache p) described readable is

            after : IsCache (step_of d m.copies r (m.cache p)).cache
            after = (steps_keep_cache d m.copies r (m.cache p) described readable is).cache cached

            next : ProcessFits d (step_of d m.copies r (m.cache p)).running
            next = record { within = bounds.within; zeros = bounds.zeros fits.zeros }

            lives : goes_on (step_of d m.copies r (m.cache p)).outcome → (step_of d m.copies r (m.cache p)).running.end ≡ Live
            lives on = (turns_are_counted d m.copies r (m.cache p)).end on ∙ live

            goes : (c : Cause) → (step_of d m.copies r (m.cache p)).outcome ≡ outcome.NeedsFlush c → GoesOn c (step_of d m.copies r (m.cache p)).running.end
            goes (cause.Release t) e = lives (subst goes_on (sym e) tt)
            goes cause.Exit e = tt
            goes cause.Trap e = tt
            goes cause.Commit e = lives (subst goes_on (sym e) tt)
            goes cause.Yield e = tt
            goes (cause.Wait reason) e = tt
            goes cause.Room e = lives (subst goes_on (sym e) tt)
            goes cause.Quantum e = tt

            go : (o : Outcome) → (step_of d m.copies r (m.cache p)).outcome ≡ o → TurnFits (after_step d m p r (step_of d m.copies r (m.cache p)) o)
            go outcome.Done e = ((next, lives (subst goes_on (sym e) tt)), after)
            go (outcome.Claim s) e =
                let new = subst (HeldBy d r (step_of d m.copies r (m.cache p)).running) e (step_held d m.copies r (m.cache p)).by in
                cond_both (is_taken (shape_of d) m.copies (lock_word d s.0) false) _ _ TurnFits (λ _. waits r _ fits) (λ _. ((fits, live, record { inside = new.0; new = new.1; left = left }), cached))
            go (outcome.NeedsFlush c) e =
                found (step_of d m.copies r (m.cache p)).running (step_of d m.copies r (m.cache p)).cache c (released r.held c) next
                (goes c e)
                (released_fits (step_of d m.copies r (m.cache p)).running c (subst (HeldBy d r (step_of d m.copies r (m.cache p)).running) e (step_held d m.copies r (m.cache p)).by)) after
            go (outcome.Waits reason) e = waits r reason fits
            go outcome.Diverged e = tt

    -- the step of an acquire is taken, or the lock is taken
    acquired : (t : Seg) (c : Claim Shadow) → t.0 < length d.segments → has_bit r.held t.0 ≡ false → r.used < d.quantum → TurnFits (acquires d m p r t c)
    acquired t c inside new left =
        let grant = grants_keep_bounds d r t.0 (record { within = fits.within; live = live; left = left }) inside new in
        cond_both (is_taken (shape_of d) m.copies c.at true) _ _ TurnFits (λ _. waits r _ fits)
        (λ _. ((record { within = grant.within; zeros = grant.zeros fits.zeros }, live), cached))

  module _ (r : Running) (c : Cause) (mask : ℕ) (fits : ProcessFits d r) (on : GoesOn c r.end) (inside : MaskFits d mask) where
    committed_fits : ProcessFits d (committed r)
    committed_fits = record {
      within = record {
        process = fits.within.process;
        aligned = fits.within.aligned;
        held = fits.within.held;
        positions = record { reads = fits.within.positions.reads; writes = fits.within.positions.writes };
        reads = fits.within.reads;
        writes = fits.within.writes;
        steps = omega arith;
        used = fits.within.used;
      };
      zeros = fits.zeros;
    }

    flushed : (f : FlushAt) → MoveFits (flush_move d m p r c mask f)
    flushed (flush.Mark f) = cond_both (f.cursor == 0) _ _ MoveFits (λ _. ((fits, on, inside), cached)) (λ _. ((fits, on, inside), cached))
    flushed (flush.First f) = cond_both (nat_le (unit_count m p f) f.cursor) _ _ MoveFits (λ _. ((committed_fits, on, inside), cached)) (λ _. ((fits, on, inside), cached))
    flushed (flush.Second f) = cond_both (f.cursor == 0) _ _ MoveFits (λ _. ((fits, on, inside), cached)) (λ _. ((fits, on, inside), cached))
    flushed (flush.Close f) = cond_both (f.cursor == 0) _ _ MoveFits (λ _. ((fits, on, inside), cached)) (λ _. (follows_fits r c mask fits on inside, empty_is (m.cache p) cached))

    -- with one segment less
    less_fits : (at : WordAt) → IsLock d mask at → MaskFits d (less d mask at)
    less_fits at is = subst (MaskFits d) (sym less_is) (record { inside = λ u b. inside.inside u (bit u b (cases_eq u is.segment)) })
      where
        less_is : less d mask at ≡ mask - 2 ^ is.segment
        less_is = ap (less d mask) is.place ∙ ap (λ x. mask - 2 ^ x) (let k : segment_extent (shape_of d) is.segment - segment_extent (shape_of d) 0 ≡ is.segment = omega arith in k)

        bit : (u : ℕ) → has_bit (mask - 2 ^ is.segment) u ≡ true → (u ≡ is.segment) ⊎ (u ≡ is.segment → ⊥) → has_bit mask u ≡ true
        bit u b (inl e) = ap (has_bit mask) e ∙ is.bit
        bit u b (inr ne) = sym (bit_off_other mask is.segment u ne is.bit) ∙ b

    unlocked : (l : ReleaseAt) → IsHand d p (m.incarnation p) (hand.Unlocking r c mask l) → MoveFits (unlock_move d m p r c mask l)
    unlocked (release.Shadow l) is = ((fits, on, inside), cached)
    unlocked (release.Primary l) is = (follows_fits r c (less d mask l.at) fits on (less_fits l.at is), cached)

  recovered : (r : RecoveryAt) → MoveFits (recovery_move d m p r)
  recovered (recovery.Claimed r) = cond_both (r.cursor == 0) _ _ MoveFits (λ _. (tt, cached)) (λ _. (tt, cached))
  recovered (recovery.Copying r) = (tt, cached)
  recovered (recovery.Locks r) = go (left_from d m.copies r.pid.0 r.cursor)
    where
      go : (o : Option ℕ) → MoveFits (locks_cleared d m p r o)
      go (Some k) = (tt, cached)
      go None = (tt, cached)
  recovered (recovery.Closing r) = cond_both (r.cursor == 0) _ _ MoveFits (λ _. (tt, cached)) (λ _. (tt, cached))

  left : (q : ℕ) (l : ReleaseAt) → MoveFits (leave_move d m p q l)
  left q (release.Shadow l) = (tt, cached)
  left q (release.Primary l) = (tt, cached)

  copied : (i : ℕ) (o : Option ℕ) → HandFits d (m.hand p) → TurnFits (copies_or_waits m p i o)
  copied i (Some r) fits = (fits, cached)
  copied i None fits = tt

  -- each turn
  pub turned : TurnTakes d m p → (h : Hand) → m.hand p ≡ h → IsHand d p (m.incarnation p) h → HandFits d h → TurnFits (turn d m p h)
  turned takes hand.Down e is fits = (subst (HandFits d) (sym e) fits, cached)
  turned takes hand.Seek e is fits = go (copied_memory d m.copies)
    where
      looked : (q : ℕ) → MoveFits (looks d m p q)
      looked q = cond_both (is_free d m q) _ _ MoveFits (λ _. (tt, cached)) (λ _. (subst (HandFits d) (sym e) fits, cached))

      go : (o : Option ℕ) → TurnFits (seeks_or_copies d m p o)
      go (Some i) = copied i (someone_amid d m) (subst (HandFits d) (sym e) fits)
      go None = next (deserted d m)
        where
          next : (o : Option ℕ) → TurnFits (seeks d m p o)
          next (Some q) = (tt, cached)
          next None = looked (m.scan p)
  turned takes (hand.Claiming q c) e is fits = cond_both (is_taken (shape_of d) m.copies c.at true) _ _ MoveFits (λ _. (tt, cached)) (λ free. (taken free (end_of (context_of d m.copies q.0)) refl, empty_is (m.cache p) cached))
    where
      taken : is_taken (shape_of d) m.copies c.at true ≡ false → (x : End) → end_of (context_of d m.copies q.0) ≡ x → HandFits d (taken_up d m q.0 x)
      taken free Live i = (takes.within q.0 c e free i, i)
      taken free (Exited code) i = tt
      taken free (Trapped code pc) i = tt
  turned takes (hand.Running r) e is fits = go (copied_memory d m.copies)
    where
      go : (o : Option ℕ) → TurnFits (runs_or_copies d m p r o)
      go (Some i) = copied i (someone_amid d m) (subst (HandFits d) (sym e) fits)
      go None = ran r fits.0 fits.1 takes.readable
  turned takes (hand.Acquiring r t c) e is fits = acquired r fits.0 fits.1 t c fits.2.inside fits.2.new fits.2.left
  turned takes (hand.Flushing r c mask f) e is fits = flushed r c mask fits.0 fits.1 fits.2 f
  turned takes (hand.Unlocking r c mask l) e is fits = unlocked r c mask fits.0 fits.1 fits.2 l is
  turned takes (hand.Leaving q l) e is fits = left q.0 l
  turned takes (hand.Recovering r) e is fits = recovered r
