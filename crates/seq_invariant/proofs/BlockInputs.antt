-- More input, and a strike, keep what hands know.
use Rattle.std.proofs.Common.{◌≡◌, ◌≢◌, ◌⊎◌, ℕ, ◌+◌, Bool, false, ◌==◌, if◌then◌else◌, List, drop, Some, None, inl, inr, refl, sym, ap, ◌∙◌, subst, arith, eq-eqb}
use Rattle.std.proofs.lemmas.Bool.{cases_eq, cond-true, cond-false, ne_eqb}
use Rattle.seq_words.specs.declared.description.MachineDesc.{MachineDesc}
use Rattle.seq_words.specs.declared.half.Half.{Half}
use Rattle.seq_words.specs.declared.half.Half.TheVariants.{A, B}
use Rattle.seq_words.specs.declared.regs.Regs.{Regs}
use Rattle.seq_isa.specs.Meaning.{register}
use Rattle.seq_pair.specs.declared.halves.Pair.{Pair}
use Rattle.seq_pair.specs.Halves.{other_half, struck}
use Rattle.seq_pair.specs.Turns.{IsAligned, unstruck}
use Rattle.seq_flat.specs.declared.inputs.LineInput.{LineInput}
use Rattle.seq_flat.specs.declared.state.FlatState.{FlatState}
use Rattle.seq_flat.specs.Laws.{MoreInput}
use Rattle.seq_flat.specs.Run.{flat_run}
use Rattle.seq_layout.specs.Shapes.{shape_of}
use Rattle.seq_layout.specs.Copies.{Copies}
use Rattle.seq_process.specs.declared.running.Running.{Running}
use Rattle.seq_cache.specs.Changes.{Changes}
use Rattle.seq_words.specs.declared.names.Seg.{Seg}
use Rattle.seq_flush.specs.Turns.{units}
use Rattle.seq_flush.specs.Facts.{all_written}
use Rattle.seq_cache.specs.declared.change.Change.{Change}
use Rattle.seq_kernel.specs.declared.outcomes.Cause.{Cause}
use Rattle.seq_runs.specs.Ahead as alone
use Rattle.seq_runs.specs.Histories.{entry_count}
use Rattle.seq_runs.proofs.Ahead.{input_keeps_ahead}
use Rattle.seq_runs.proofs.Growth.{entry_goes_on, entry_counts, none_is_more}
use Rattle.seq_image.specs.Areas.{in_area, CopyHolds}
use Rattle.seq_flat.specs.Reached.{IsReached}
use Rattle.seq_flat.proofs.ReachedStates.{counted_steps}
use Rattle.seq_image.specs.Ahead.{IsAhead, emptied}
use Rattle.seq_image.proofs.StaysAhead.{more_input_leaves_ahead}
use Rattle.seq_turns.specs.declared.hand.Hand.TheVariants as hand
use Rattle.seq_turns.specs.declared.hand.FlushAt.{FlushAt}
use Rattle.seq_turns.specs.declared.hand.FlushAt.TheVariants as flush
use Rattle.seq_invariant.specs.BlockAreas.{segments_of}
use Rattle.seq_invariant.specs.BlockWorks.{Committed, committed_blocks, with_commit, one_more, Works, Rested, Make}
use Rattle.seq_kernel.proofs.Halves.{unstruck_left, aligned_left}
use Rattle.seq_kernel.specs.Refinement.{AsksFor}
use Rattle.seq_invariant.specs.BlockHands.{Suits, Runs, Acquires, Closes, FlushKnows}
use Rattle.seq_invariant.specs.BlockInputs.{with_inputs, InputsKeep, StrikesKeep, CommitsAreWritten}
use Rattle.seq_invariant.proofs.BlockShrinks.{some_same}
use Rattle.seq_invariant.proofs.BlockCommits.{one_more_here}
use Rattle.seq_invariant.proofs.BlockOthers.{one_more_elsewhere}
use Rattle.seq_invariant.proofs.BlockGrants.{with_pair}

-- a process with more input, and with other halves, of which that which isn't struck is the same
module _ (d : MachineDesc) (at : Committed) (now : List LineInput) (more : MoreInput at.inputs now) (r : Running) (q : Pair) (same : unstruck q ≡ unstruck r.pair) (aligned : IsAligned r.pair.struck r.pair.a r.pair.b → IsAligned q.struck q.a q.b)
    (equal : (r.pair.struck ≡ None → r.pair.a ≡ r.pair.b) → q.struck ≡ None → q.a ≡ q.b) where
  abbrev next : Committed
  next = with_inputs at now

  abbrev s : Running
  s = record r { pair = q }

  record Again (segments : ℕ → Bool) (c : Changes) (g : FlatState) : Type 0 where
    works : Works d next segments s c
    state : g ≡ works.ahead.state

  again : (segments : ℕ → Bool) (c : Changes) (works : Works d at segments r c) → Again segments c works.ahead.state
  again segments c works =
      let g = works.ahead.state in
      let ahead : IsAhead d now at.state at.commits segments s c =
      with_pair d next segments r c q same (aligned works.ahead.flush.within.aligned) (more_input_leaves_ahead d at.inputs now at.state at.commits segments r c more works.ahead) in
      let mine : alone.IsAhead d now segments r.pid.0 r.steps at.state g = input_keeps_ahead d at.inputs now segments r.pid.0 r.steps at.state g more works.alone in
      let e : g ≡ ahead.state = some_same (sym mine.leads ∙ ahead.steps) in
      record {
        works = record {
          ahead = ahead;
          alone = subst (λ x. alone.IsAhead d now segments r.pid.0 r.steps at.state x) e mine;
          reached = subst (IsReached d) e works.reached;
          equal = equal works.equal;
        };
        state = e;
      }

  -- what it asks for is what the half that isn't struck has
  asked_again : (g : FlatState) (t : ℕ) → AsksFor d g r t → AsksFor d g s t
  asked_again g t asked = record {
    calls = asked.calls;
    number = ap (λ (h : Regs). register h 17) same ∙ asked.number;
    segment = ap (λ (h : Regs). register h 10) same ∙ asked.segment;
    known = asked.known;
    granted = asked.granted;
    free = asked.free;
    highest = asked.highest;
  }

  module _ (segments : ℕ → Bool) (p : Copies) (c : Changes) where
    runs_again : Runs d at segments p c r → Runs d next segments p c s
    runs_again k = record { works = (again segments c k.works).works; live = k.live; own = k.own; clean = k.clean; both = k.both }

    acquires_again : (t : Seg) → Acquires d at segments p c r t → Acquires d next segments p c s t
    acquires_again t k =
        let now = again segments c k.runs.works in
        record {
          runs = runs_again k.runs;
          left = k.left;
          asks = λ g leads. subst (λ x. AsksFor d x s t.0) (now.state ∙ some_same (sym now.works.ahead.steps ∙ leads)) (asked_again k.runs.works.ahead.state t.0 (k.asks k.runs.works.ahead.state k.runs.works.ahead.steps));
        }

    rested_again : Rested d at segments r c → Rested d next segments s c
    rested_again k = record { works = (again segments (emptied c) k.works).works; none = k.none }

    closes_again : Closes d at segments p c r → Closes d next segments p c s
    closes_again k = record { rested = rested_again k.rested; both = k.both; cached = k.cached }

    make_again : (us : List Change) (g g' : FlatState) → g ≡ g' → Make d at segments r.pid.0 us g → Make d next segments r.pid.0 us g'
    make_again us g g' e make = subst (Make d next segments r.pid.0 us) e (record { units = make.units; blocks = make.blocks })

    flush_again : (f : FlushAt) → FlushKnows d at segments p c r f → FlushKnows d next segments p c s f
    flush_again (flush.Mark f) k =
        let x = again segments c k.works in
        record { works = x.works; make = make_again (units f c.changes) k.works.ahead.state x.works.ahead.state x.state k.make; both = k.both }
    flush_again (flush.First f) k =
        let x = again segments c k.works in
        record {
          works = x.works;
          make = make_again (units f c.changes) k.works.ahead.state x.works.ahead.state x.state k.make;
          primaries = subst (λ g. CopyHolds (shape_of d) (all_written (shape_of d) p false (drop f.cursor (units f c.changes))) false (in_area d r.pid.0 segments) (committed_blocks d (with_commit at r.pid.0 g))) x.state k.primaries;
          shadows = k.shadows;
          to_come = record { each = k.to_come.each };
        }
    flush_again (flush.Second f) k = record { rested = rested_again k.rested; units = k.units; number = k.number; primaries = k.primaries; shadows = k.shadows; cached = k.cached }
    flush_again (flush.Close f) k = closes_again k

  suits_again : (why : Cause) (mask : ℕ) → Suits why mask r → Suits why mask s
  suits_again why mask k = record { lives = k.lives; given = k.given }

pub inputs_keep : InputsKeep
inputs_keep d at now p c hand.Down more k = tt
inputs_keep d at now p c hand.Seek more k = tt
inputs_keep d at now p c (hand.Claiming x y) more k = tt
inputs_keep d at now p c (hand.Running r) more k = runs_again d at now more r r.pair refl (λ h. h) (λ h. h) (segments_of d (hand.Running r)) p c k
inputs_keep d at now p c (hand.Acquiring r t y) more k = acquires_again d at now more r r.pair refl (λ h. h) (λ h. h) (segments_of d (hand.Acquiring r t y)) p c t k
inputs_keep d at now p c (hand.Flushing r why mask f) more k = (flush_again d at now more r r.pair refl (λ h. h) (λ h. h) (segments_of d (hand.Flushing r why mask f)) p c f k.0, k.1)
inputs_keep d at now p c (hand.Unlocking r why mask l) more k = (closes_again d at now more r r.pair refl (λ h. h) (λ h. h) (segments_of d (hand.Unlocking r why mask l)) p c k.0, k.1, k.2)
inputs_keep d at now p c (hand.Leaving x l) more k = tt
inputs_keep d at now p c (hand.Recovering x) more k = k

-- a half that is struck
module _ (pair : Pair) (half : Half) (reg mask : ℕ) (other : pair.struck ≢ Some (other_half half)) where
  struck_equal : (pair.struck ≡ None → pair.a ≡ pair.b) → (struck pair half reg mask).struck ≡ None → (struck pair half reg mask).a ≡ (struck pair half reg mask).b
  struck_equal equal none = go half none
    where
      go : (h : Half) → (struck pair h reg mask).struck ≡ None → (struck pair h reg mask).a ≡ (struck pair h reg mask).b
      go A e = absurd (let x : ⊥ = cc in x)
      go B e = absurd (let x : ⊥ = cc in x)

pub strikes_keep : StrikesKeep
strikes_keep d at p c hand.Down half reg mask may k = tt
strikes_keep d at p c hand.Seek half reg mask may k = tt
strikes_keep d at p c (hand.Claiming x y) half reg mask may k = tt
strikes_keep d at p c (hand.Running r) half reg mask may k =
    runs_again d at at.inputs (none_is_more at.inputs) r (struck r.pair half reg mask) (unstruck_left r.pair half reg mask k.works.equal may) (aligned_left r.pair half reg mask may) (struck_equal r.pair half reg mask may) (segments_of d (hand.Running r)) p c k
strikes_keep d at p c (hand.Acquiring r t y) half reg mask may k =
    acquires_again d at at.inputs (none_is_more at.inputs) r (struck r.pair half reg mask) (unstruck_left r.pair half reg mask k.runs.works.equal may) (aligned_left r.pair half reg mask may) (struck_equal r.pair half reg mask may) (segments_of d (hand.Acquiring r t y)) p c t k
strikes_keep d at p c (hand.Flushing r why mask' f) half reg mask may k =
    (flush_again d at at.inputs (none_is_more at.inputs) r (struck r.pair half reg mask) (unstruck_left r.pair half reg mask (flush_equal f k.0) may) (aligned_left r.pair half reg mask may) (struck_equal r.pair half reg mask may) (segments_of d (hand.Flushing r why mask' f)) p c f k.0, record { lives = k.1.lives; given = k.1.given })
  where
    flush_equal : (f : FlushAt) → FlushKnows d at (segments_of d (hand.Flushing r why mask' f)) p c r f → r.pair.struck ≡ None → r.pair.a ≡ r.pair.b
    flush_equal (flush.Mark x) h = h.works.equal
    flush_equal (flush.First x) h = h.works.equal
    flush_equal (flush.Second x) h = h.rested.works.equal
    flush_equal (flush.Close x) h = h.rested.works.equal
strikes_keep d at p c (hand.Unlocking r why mask' l) half reg mask may k =
    (closes_again d at at.inputs (none_is_more at.inputs) r (struck r.pair half reg mask) (unstruck_left r.pair half reg mask k.0.rested.works.equal may) (aligned_left r.pair half reg mask may) (struck_equal r.pair half reg mask may) (segments_of d (hand.Unlocking r why mask' l)) p c k.0, k.1, record { lives = k.2.lives; given = k.2.given })
strikes_keep d at p c (hand.Leaving x l) half reg mask may k = tt
strikes_keep d at p c (hand.Recovering x) half reg mask may k = k

nothing_more : (n : ℕ) → n + 0 ≡ n
nothing_more n = omega arith

pub commits_are_written : CommitsAreWritten
commits_are_written d at segments q n g m m' is commits history = record {
  run = ap (λ h. flat_run d at.inputs h) history ∙ entry_goes_on d at.inputs m.history q n at.state g is.run commits.alone.leads;
  commits = λ x. count x (cases_eq x q);
  reached = counted_steps d at.inputs q n at.state g is.fit is.reached commits.alone.leads;
  fit = is.fit;
}
  where
    after : (x : ℕ) → entry_count x m'.history ≡ entry_count x m.history + (if q == x then 1 else 0)
    after x = ap (entry_count x) history ∙ entry_counts m.history q x n

    count : (x : ℕ) → (x ≡ q) ⊎ (x ≡ q → ⊥) → one_more q at.commits x ≡ entry_count x m'.history
    count x (inl e) =
        let one : (if q == x then 1 else 0) ≡ 1 = cond-true _ _ _ (eq-eqb q x (sym e)) in
        subst (λ y. one_more q at.commits y ≡ at.commits y + 1) (sym e) (one_more_here q at.commits) ∙ ap (λ y. y + 1) (is.commits x) ∙ ap (λ y. entry_count x m.history + y) (sym one) ∙ sym (after x)
    count x (inr ne) =
        let none : (if q == x then 1 else 0) ≡ 0 = cond-false _ _ _ (ne_eqb q x (λ h. ne (sym h))) in
        one_more_elsewhere q at.commits x ne ∙ is.commits x ∙ sym (nothing_more (entry_count x m.history)) ∙ ap (λ y. entry_count x m.history + y) (sym none) ∙ sym (after x)
