-- The turns of a running process keep what the hand knows.
use Rattle.std.proofs.Math.Path.{fun_ext}
use Rattle.std.proofs.Common.{◌≡◌, ◌⊎◌, ℕ, ◌+◌, ◌<◌, ◌≤◌, Bool, true, false, not, ◌||◌, nat_le, [], length, Some, None, inl, inr, refl, sym, ap, ◌∙◌, subst, arith}
use Rattle.std.proofs.lemmas.Bool.{cond_both, cases_Bool, cases_lt, leb-false, eqb-true, false≢true}
use Rattle.seq_words.specs.Masks.{has_bit}
use Rattle.seq_words.specs.Description.{IsDescription}
use Rattle.seq_words.specs.declared.description.MachineDesc.{MachineDesc}
use Rattle.seq_words.specs.declared.names.Seg.{Seg}
use Rattle.seq_flat.specs.declared.state.FlatState.{FlatState}
use Rattle.seq_flat.specs.State.{no_segment}
use Rattle.seq_flat.specs.Memory.{is_owner}
use Rattle.seq_flat.specs.Run.{steps}
use Rattle.seq_layout.specs.Shapes.{Shape, shape_of, segment_extent}
use Rattle.seq_layout.specs.Copies.{Copies, serves, IsServed, first_block}
use Rattle.seq_process.specs.declared.running.Running.{Running}
use Rattle.seq_cache.specs.Changes.{Changes}
use Rattle.seq_kernel.specs.declared.outcomes.Outcome.{Outcome}
use Rattle.seq_kernel.specs.declared.outcomes.Outcome.TheVariants as outcome
use Rattle.seq_kernel.specs.declared.outcomes.Cause.{Cause}
use Rattle.seq_kernel.specs.declared.outcomes.Cause.TheVariants as cause
use Rattle.seq_kernel.specs.Views.{Blocks}
use Rattle.seq_kernel.specs.Turns.{Turned}
use Rattle.seq_kernel.specs.Calls.{lines_of}
use Rattle.seq_kernel.specs.Steps.{step_of}
use Rattle.seq_kernel.specs.Bounds.{IsRunning, AreReadable}
use Rattle.seq_kernel.specs.Shown.{HoldsInput}
use Rattle.std.proofs.lemmas.List.{get_or_past}
use Rattle.seq_flat.specs.declared.state.End.TheVariants.{Live}
use Rattle.seq_kernel.specs.Kept.{KeepsBounds, KeepsCache, keeps_segments}
use Rattle.seq_kernel.specs.Refinement.{takes_step}
use Rattle.seq_kernel.proofs.KeptSteps.{steps_keep_bounds, steps_keep_cache}
use Rattle.seq_runs.specs.Areas.{HoldsWithin}
use Rattle.seq_runs.specs.Ahead as alone
use Rattle.seq_image.specs.Areas.{AreAlike, in_area}
use Rattle.seq_flat.specs.Reached.{IsReached, FitJournals}
use Rattle.seq_flat.proofs.ReachedStates.{counted_steps}
use Rattle.seq_image.specs.Depends.{AreWhole}
use Rattle.seq_kernel.specs.Counted.{goes_on, IsCounted}
use Rattle.seq_kernel.specs.Refinement.{AsksFor}
use Rattle.seq_image.specs.Ahead.{IsAhead, RunsAhead, ReadsImage}
use Rattle.seq_kernel.proofs.CountedTurns.{turns_are_counted}
use Rattle.seq_kernel.proofs.TurnCauses.{turns_have_their_cause, turns_keep_halves}
use Rattle.seq_image.proofs.TurnsAhead.{turns_stay_ahead, claims_ask}
use Rattle.seq_stands.proofs.LockSteps.{Steps, HeldBy, step_held, no_bit, or_both}
use Rattle.seq_turns.specs.declared.hand.Hand.TheVariants as hand
use Rattle.seq_turns.specs.Machines.{Machine}
use Rattle.seq_turns.specs.Causes.{finds, released}
use Rattle.seq_turns.specs.Processors.{after_step, acquisition}
use Rattle.seq_turns.specs.Processors
use Rattle.std.proofs.Common.{◌-◌, suc}
use Rattle.seq_layout.specs.declared.units.WordAt.{WordAt}
use Rattle.seq_locks.specs.declared.claim.Claim.{Claim}
use Rattle.seq_locks.specs.declared.stages.Shadow as shadow_stage
use Rattle.seq_locks.specs.Turns.{is_taken, word_at}
use Rattle.seq_kernel.specs.declared.outcomes.Reason.TheVariants.{Lock}
use Rattle.seq_stands.specs.Locks.{whole_if, half_if, is_lock}
use Rattle.seq_turns.specs.Machines.{copies_after}
use Rattle.seq_turns.specs.Reading.{lock_word}
use Rattle.seq_turns.specs.Operations.{sets}
use Rattle.seq_invariant.specs.BlockAreas.{is_whole}
use Rattle.seq_invariant.proofs.BlockCopies.{SameBlocks, word_same, same_keeps}
use Rattle.seq_invariant.proofs.BlockStays.{both_kept}
use Rattle.seq_invariant.specs.BlockAreas.{segments_of, BothHold}
use Rattle.seq_invariant.specs.BlockWorks.{Committed, committed_blocks, Works}
use Rattle.seq_invariant.specs.BlockHands.{RunsOn, HandKnows}
use Rattle.seq_invariant.proofs.BlockShrinks.{some_same}
use Rattle.seq_invariant.proofs.BlockFollows.{wholes, whole_is}
use Rattle.seq_invariant.specs.BlockTurns.{AfterTurn}
use Rattle.seq_invariant.proofs.BlockFound.{found_knows}

-- the first copies hold what both copies hold
pub first_holds : (s : Shape) (p : Copies) (area : ℕ → Bool) (o : Blocks) → ((e : ℕ) → IsServed s p e) → BothHold s p area o → AreAlike area (first_block s p) o
first_holds s p area o served both = record { each = λ e n inside. go e n inside (serves s p e false) refl }
  where
    go : (e n : ℕ) → area e ≡ true → (b : Bool) → serves s p e false ≡ b → first_block s p e n ≡ o e n
    go e n inside true t = subst (λ x. p.block e n (not x) ≡ o e n) (sym t) (both.primaries.each e n (rw (inside, t) refl))
    go e n inside false t =
        let there : serves s p e true ≡ true = subst (λ x. serves s p e (not x) ≡ true) t (served e) in
        subst (λ x. p.block e n (not x) ≡ o e n) (sym t) (both.shadows.each e n (rw (inside, there) refl))

-- what a process that is ahead holds is in its area
pub held_ahead : (d : MachineDesc) (at : Committed) (segments : ℕ → Bool) (r : Running) (c : Changes) → (ahead : IsAhead d at.inputs at.state at.commits segments r c) → HoldsWithin segments r.pid.0 ahead.state
held_ahead d at segments r c ahead = record {
  segment = λ t held. elim (cases_lt t (length d.segments)) [
    | inl lt ↦ ahead.among t ((ahead.flush.shows.segment t lt).held ∙ held)
    | inr past ↦ absurd (false≢true (sym (ap (λ s. is_owner r.pid.0 s.owner) (get_or_past ahead.state.segments t no_segment (omega (arith, past, ahead.flush.flat.segments)))) ∙ held))
  ];
}

-- one step more
pub works_step : (d : MachineDesc) (at : Committed) (segments : ℕ → Bool) (r s : Running) (c c' : Changes) → FitJournals d at.inputs → IsReached d at.state → s.pid ≡ r.pid → s.steps ≡ r.steps + 1 → (s.pair.struck ≡ None → s.pair.a ≡ s.pair.b) →
    (g : FlatState) → alone.IsAhead d at.inputs segments r.pid.0 r.steps at.state g → IsAhead d at.inputs at.state at.commits segments s c' → Works d at segments s c'
works_step d at segments r s c c' fit reached pid number equal g before ahead = record {
  ahead = ahead;
  alone = record { leads = ahead.steps; within = within };
  reached = counted_steps d at.inputs s.pid.0 s.steps at.state ahead.state fit reached ahead.steps;
  equal = equal;
}
  where
    within : (k : ℕ) (h : FlatState) → k ≤ s.steps → steps d at.inputs s.pid.0 k at.state ≡ Some h → HoldsWithin segments s.pid.0 h
    within k h few leads = elim (cases_lt k s.steps) [
      | inl lt ↦
          subst (λ q. HoldsWithin segments q.0 h) (sym pid)
          (before.within k h (omega (arith, lt, number)) (subst (λ q. steps d at.inputs q.0 k at.state ≡ Some h) pid leads))
      | inr past ↦
          let all : k ≡ s.steps = omega (arith, few, past) in
          let same : h ≡ ahead.state = some_same (sym leads ∙ ap (λ n. steps d at.inputs s.pid.0 n at.state) all ∙ ahead.steps) in
          subst (HoldsWithin segments s.pid.0) (sym same) (held_ahead d at segments s c' ahead)
    ]

-- what is said of one process and its area is said of another with the same
module _ (d : MachineDesc) (at : Committed) (p : Copies) (segments segments' : ℕ → Bool) (same : segments ≡ segments') where
  pub works_same : (r : Running) (c : Changes) → Works d at segments r c → Works d at segments' r c
  works_same r c works = subst (λ x. Works d at x r c) same works

  pub both_same : (q q' : ℕ) → q ≡ q' → BothHold (shape_of d) p (in_area d q segments) (committed_blocks d at) → BothHold (shape_of d) p (in_area d q' segments') (committed_blocks d at)
  both_same q q' e both = subst (λ x. BothHold (shape_of d) p (in_area d q' x) (committed_blocks d at)) same (subst (λ x. BothHold (shape_of d) p (in_area d x segments) (committed_blocks d at)) e both)

module _ (d : MachineDesc) (described : IsDescription d) (at : Committed) (m : Machine) (p : ℕ) (r : Running) (fit : FitJournals d at.inputs) (reached : IsReached d at.state) (k : HandKnows d at m.copies (m.cache p) (hand.Running r)) where
  abbrev c : Changes
  c = m.cache p

  abbrev segments : ℕ → Bool
  segments = segments_of d (hand.Running r)

  area_alone : segments ≡ wholes r 0
  area_alone = fun_ext (λ t. whole_is (has_bit r.held t) r.pid.0 ∙ sym (or_both (has_bit r.held t) (has_bit 0 t) (has_bit r.held t) refl (no_bit t)) ∙ sym (whole_is (has_bit r.held t || has_bit 0 t) r.pid.0))

  -- a cause is found at which no step was taken, and nothing is released
  pub found_alone : (why : Cause) → (RunsOn why → r.end ≡ Live) → AfterTurn d at m (finds d m p r c why 0)
  found_alone why lives =
      found_knows d described at m p r c why 0 (works_same d at m.copies segments (wholes r 0) area_alone r c k.works) (both_same d at m.copies segments (wholes r 0) area_alone r.pid.0 r.pid.0 refl k.both) k.clean
      (record { lives = lives; given = λ t bit. absurd (false≢true (sym (no_bit t) ∙ bit)) })

  module _ (whole : AreWhole (first_block (shape_of d) m.copies)) (readable : AreReadable d m.copies) (input : (l : ℕ) → has_bit (lines_of d r) l ≡ true → HoldsInput d m.copies at.inputs l) (left : r.used < d.quantum) where
    abbrev after : Turned
    after = step_of d m.copies r c

    pub reads : ReadsImage d at.inputs at.state at.commits segments m.copies r
    reads = record { readable = readable; whole = whole; image = first_holds (shape_of d) m.copies (in_area d r.pid.0 segments) (committed_blocks d at) readable.served k.both; input = input }

    pub running : IsRunning d r
    running = record { within = k.works.ahead.flush.within; live = k.live; left = left }

    pub runs_ahead : RunsAhead d at.inputs at.state at.commits segments r c
    runs_ahead = record { ahead = k.works.ahead; running = running; own = k.own; held = λ t lt. whole_is (has_bit r.held t) r.pid.0 }

    bounds : KeepsBounds d r c after
    bounds = steps_keep_bounds d m.copies r c described readable running

    cached : KeepsCache d r c after
    cached = steps_keep_cache d m.copies r c described readable running

    counted : IsCounted d r c after
    counted = turns_are_counted d m.copies r c

    after_works : takes_step after.outcome → Works d at segments after.running after.cache
    after_works step =
        works_step d at segments r after.running c after.cache fit reached bounds.process (counted.steps step) ((turns_keep_halves d m.copies r c).0.agree k.works.equal) k.works.ahead.state k.works.alone
        (turns_stay_ahead d at.inputs at.state at.commits segments m.copies r c described reads runs_ahead step).0

    later : takes_step after.outcome → after.running.steps ≡ 0 → after.cache.changes ≡ []
    later step none = absurd (let e = counted.steps step in let x : ⊥ = omega (arith, e, none) in x)

    pid_same : r.pid.0 ≡ after.running.pid.0
    pid_same = ap (λ q. q.0) (sym bounds.process)

    -- a step after which the process runs on
    done_knows : after.outcome ≡ outcome.Done → HandKnows d at m.copies after.cache (hand.Running after.running)
    done_knows is =
        let step : takes_step after.outcome = subst takes_step (sym is) tt in
        let held : after.running.held ≡ r.held = counted.held (subst keeps_segments (sym is) tt) in
        let area : segments ≡ segments_of d (hand.Running after.running) = fun_ext (λ t. whole_is (has_bit r.held t) r.pid.0 ∙ ap (λ x. has_bit x t) (sym held) ∙ sym (whole_is (has_bit after.running.held t) after.running.pid.0)) in
        record {
          works = works_same d at m.copies segments (segments_of d (hand.Running after.running)) area after.running after.cache (after_works step);
          live = counted.end (subst goes_on (sym is) tt) ∙ k.live;
          own = cached.own (subst keeps_segments (sym is) tt) k.own;
          clean = later step;
          both = both_same d at m.copies segments (segments_of d (hand.Running after.running)) area r.pid.0 after.running.pid.0 pid_same k.both;
        }

    -- a step with a cause
    module _ (why : Cause) (is : after.outcome ≡ outcome.NeedsFlush why) (step : takes_step after.outcome) (held : Steps r after.running (released r.held why)) (lives : RunsOn why → goes_on (outcome.NeedsFlush why)) where
      area_after : segments ≡ wholes after.running (released r.held why)
      area_after = fun_ext (λ t. whole_is (has_bit r.held t) r.pid.0 ∙ sym (held.held t) ∙ sym (whole_is (has_bit after.running.held t || has_bit (released r.held why) t) after.running.pid.0))

      cause_knows : AfterTurn d at m (finds d m p after.running after.cache why (released r.held why))
      cause_knows =
          found_knows d described at m p after.running after.cache why (released r.held why)
          (works_same d at m.copies segments (wholes after.running (released r.held why)) area_after after.running after.cache (after_works step))
          (both_same d at m.copies segments (wholes after.running (released r.held why)) area_after r.pid.0 after.running.pid.0 pid_same k.both) (later step)
          (record { lives = λ on. counted.end (subst goes_on (sym is) (lives on)) ∙ k.live; given = held.given })

    needs_knows : (why : Cause) → after.outcome ≡ outcome.NeedsFlush why → AfterTurn d at m (after_step d m p r after (outcome.NeedsFlush why))
    needs_knows (cause.Release t) is = cause_knows (cause.Release t) is (subst takes_step (sym is) tt) (subst (HeldBy d r after.running) is (step_held d m.copies r c).by) (λ on. tt)
    needs_knows cause.Exit is = cause_knows cause.Exit is (subst takes_step (sym is) tt) (subst (HeldBy d r after.running) is (step_held d m.copies r c).by) (λ on. absurd on)
    needs_knows cause.Trap is = cause_knows cause.Trap is (subst takes_step (sym is) tt) (subst (HeldBy d r after.running) is (step_held d m.copies r c).by) (λ on. absurd on)
    needs_knows cause.Commit is = cause_knows cause.Commit is (subst takes_step (sym is) tt) (subst (HeldBy d r after.running) is (step_held d m.copies r c).by) (λ on. tt)
    needs_knows cause.Yield is = cause_knows cause.Yield is (subst takes_step (sym is) tt) (subst (HeldBy d r after.running) is (step_held d m.copies r c).by) (λ on. tt)
    needs_knows (cause.Wait why) is = cause_knows (cause.Wait why) is (subst takes_step (sym is) tt) (subst (HeldBy d r after.running) is (step_held d m.copies r c).by) (λ on. tt)
    needs_knows cause.Quantum is = cause_knows cause.Quantum is (subst takes_step (sym is) tt) (subst (HeldBy d r after.running) is (step_held d m.copies r c).by) (λ on. tt)
    needs_knows cause.Room is =
        let none = bounds.unchanged (λ step. subst takes_step is step) in
        subst (λ x. AfterTurn d at m (finds d m p x after.cache cause.Room 0)) (sym none.running)
        (subst (λ x. AfterTurn d at m (finds d m p r x cause.Room 0)) (sym none.cache) (found_alone cause.Room (λ on. k.live)))

    -- the lock of a segment is claimed
    half_area : (t : Seg) → (x : WordAt) → x ≡ lock_word d t.0 → has_bit r.held t.0 ≡ false → (u : ℕ) → is_whole (whole_if (has_bit r.held u) r.pid.0) ≡ is_whole (half_if (is_lock d u x) r.pid.0 (whole_if (has_bit r.held u) r.pid.0))
    half_area t x is free u = go (cases_Bool (is_lock d u x))
      where
        go : (is_lock d u x ≡ true) ⊎ (is_lock d u x ≡ false) → is_whole (whole_if (has_bit r.held u) r.pid.0) ≡ is_whole (half_if (is_lock d u x) r.pid.0 (whole_if (has_bit r.held u) r.pid.0))
        go (inl here) =
            let e : segment_extent (shape_of d) t.0 ≡ segment_extent (shape_of d) u = sym (ap (λ w. w.extent.0) is) ∙ eqb-true _ _ here in
            let same : u ≡ t.0 = omega (arith, e) in
            whole_is (has_bit r.held u) r.pid.0 ∙ ap (has_bit r.held) same ∙ free ∙ ap (λ b. is_whole (half_if b r.pid.0 (whole_if (has_bit r.held u) r.pid.0))) (sym here)
        go (inr other) = ap (λ b. is_whole (half_if b r.pid.0 (whole_if (has_bit r.held u) r.pid.0))) (sym other)

    acquires_knows : (t : Seg) → after.outcome ≡ outcome.Claim t → (now : Claim shadow_stage.Shadow) → now.at ≡ lock_word d t.0 → (q : Copies) → SameBlocks m.copies q → HandKnows d at q c (hand.Acquiring r t now)
    acquires_knows t is now place q same =
        let next : ℕ → Bool = segments_of d (hand.Acquiring r t now) in
        let free : has_bit r.held t.0 ≡ false = (((turns_have_their_cause d m.copies r c).claims t).0 is).1.free in
        let area : segments ≡ next = fun_ext (half_area t now.at place free) in
        let both : BothHold (shape_of d) m.copies (in_area d r.pid.0 next) (committed_blocks d at) = both_same d at m.copies segments next area r.pid.0 r.pid.0 refl k.both in
        record {
          runs = record {
            works = works_same d at m.copies segments next area r c k.works;
            live = k.live;
            own = k.own;
            clean = k.clean;
            both = both_kept (shape_of d) m.copies q (in_area d r.pid.0 next) (committed_blocks d at) (record { primaries = same_keeps (shape_of d) m.copies q false _ same; shadows = same_keeps (shape_of d) m.copies q true _ same }) both;
          };
          left = left;
          asks = λ g leads. subst (λ x. AsksFor d x r t.0) (some_same (sym runs_ahead.ahead.steps ∙ leads)) (claims_ask d at.inputs at.state at.commits segments m.copies r c t.0 runs_ahead described reads is);
        }

    acquisition_knows : (t : Seg) → after.outcome ≡ outcome.Claim t → AfterTurn d at m (acquisition d m p r t)
    acquisition_knows t is = cond_both (is_taken (shape_of d) m.copies (lock_word d t.0) false) _ _ (AfterTurn d at m)
        (λ _. found_alone (cause.Wait (Lock t (record { 0 = word_at m.copies (lock_word d t.0) false - 1 }))) (λ on. absurd on))
        (λ _. acquires_knows t is (record { at = lock_word d t.0; value = suc r.pid.0; stage = record {} }) refl (copies_after (sets d m (lock_word d t.0) false (suc r.pid.0)) m.copies) (word_same d m.copies (lock_word d t.0).extent.0 0 false (suc r.pid.0)))

    after_knows : (o : Outcome) → after.outcome ≡ o → AfterTurn d at m (after_step d m p r after o)
    after_knows outcome.Done is = done_knows is
    after_knows (outcome.Claim t) is = acquisition_knows t is
    after_knows (outcome.NeedsFlush why) is = needs_knows why is
    after_knows (outcome.Waits reason) is = found_alone (cause.Wait reason) (λ on. absurd on)
    after_knows outcome.Diverged is = tt

  -- the turn of a running process
  pub runs_knows : AreWhole (first_block (shape_of d) m.copies) → AreReadable d m.copies → ((l : ℕ) → has_bit (lines_of d r) l ≡ true → HoldsInput d m.copies at.inputs l) → AfterTurn d at m (Processors.runs d m p r)
  runs_knows whole readable input = cond_both (nat_le d.quantum r.used) _ _ (AfterTurn d at m)
      (λ _. found_alone cause.Quantum (λ on. absurd on))
      (λ left. after_knows whole readable input (leb-false d.quantum r.used left) (step_of d m.copies r c).outcome refl)
