-- What a hand knows stays when another process commits.
use Rattle.std.proofs.Common.{◌≡◌, ◌≢◌, ℕ, ◌+◌, ◌-◌, ◌<◌, ◌≤◌, Bool, true, false, List, drop, length, sym, ap, ◌∙◌, subst, arith}
use Rattle.std.proofs.lemmas.Bool.{cond-false, ne_eqb}
use Rattle.seq_words.specs.Masks.{has_bit}
use Rattle.seq_words.specs.Description.{IsDescription}
use Rattle.seq_words.specs.declared.description.MachineDesc.{MachineDesc}
use Rattle.seq_flat.specs.declared.state.FlatState.{FlatState}
use Rattle.seq_flat.specs.declared.state.Rights.{Rights}
use Rattle.seq_flat.specs.State.{rights_of}
use Rattle.seq_layout.specs.Shapes.{shape_of}
use Rattle.seq_layout.specs.Copies.{Copies}
use Rattle.seq_process.specs.declared.running.Running.{Running}
use Rattle.seq_cache.specs.Changes.{Changes}
use Rattle.seq_cache.specs.declared.change.Change.{Change}
use Rattle.seq_flush.specs.Turns.{units}
use Rattle.seq_flush.specs.Facts.{all_written}
use Rattle.seq_kernel.proofs.RefineCallsMeets.{rights_are}
use Rattle.seq_runs.specs.Areas.{HoldsWithin, Agree, OthersStay}
use Rattle.seq_runs.specs.Ahead as alone
use Rattle.seq_runs.specs.Orders.{AreApart, IsUntouched}
use Rattle.seq_runs.proofs.Touches.{outside}
use Rattle.seq_runs.proofs.Ahead.{none_yet, many_steps_are_local}
use Rattle.seq_runs.proofs.Owners.{lines_have_one_owner}
use Rattle.seq_runs.proofs.Orders.{others_are_untouched}
use Rattle.seq_image.specs.Areas.{AreAlike, AgreeOn, in_area}
use Rattle.seq_flat.specs.Reached.{IsReached, FitJournals}
use Rattle.seq_image.proofs.Areas.{alike_sym, alike_trans}
use Rattle.seq_image.proofs.AreaImages.{image_is_of_the_area}
use Rattle.seq_flat.proofs.ReachedStates.{counted_steps}
use Rattle.seq_image.specs.Ahead.{over_image, IsAhead, emptied}
use Rattle.seq_image.proofs.Layers.{alike_under}
use Rattle.seq_image.proofs.StaysAhead.{others_leave_ahead}
use Rattle.seq_turns.specs.declared.hand.Hand.{Hand}
use Rattle.seq_turns.specs.declared.hand.Hand.TheVariants as hand
use Rattle.seq_turns.specs.declared.hand.FlushAt.{FlushAt}
use Rattle.seq_turns.specs.declared.hand.FlushAt.TheVariants as flush
use Rattle.seq_invariant.specs.BlockAreas.{segments_of, BothHold}
use Rattle.seq_invariant.specs.BlockWorks.{Committed, committed_blocks, with_commit, one_more, Works, Rested, Make, Commits}
use Rattle.seq_words.specs.declared.names.Seg.{Seg}
use Rattle.seq_kernel.specs.Refinement.{AsksFor}
use Rattle.seq_kernel.proofs.RefineCallsGrants.{asks_in_all_shown}
use Rattle.seq_image.proofs.Depends.{shows_all_that_agree}
use Rattle.seq_invariant.specs.BlockHands.{Runs, Acquires, Closes, FlushKnows, HandKnows}
use Rattle.seq_invariant.specs.BlockTurns.{IsOther}
use Rattle.seq_invariant.proofs.BlockCopies.{holds_alike}
use Rattle.seq_invariant.proofs.Units.{to_come_alike, committed_alike}
use Rattle.seq_invariant.proofs.BlockShrinks.{some_same}
use Rattle.seq_invariant.proofs.BlockCommits.{one_more_here}

pub one_more_elsewhere : (q : ℕ) (commits : ℕ → ℕ) (p : ℕ) → p ≢ q → one_more q commits p ≡ commits p
one_more_elsewhere q commits p ne = cond-false _ _ _ (ne_eqb p q ne)

-- states that agree on a process and its area, and in which it holds nothing outside it
pub agree_on : (d : MachineDesc) (segments : ℕ → Bool) (q : ℕ) (f g : FlatState) → q < length d.processes → Agree (rights_of d) segments q f g → HoldsWithin segments q f → HoldsWithin segments q g → AgreeOn d q segments f g
agree_on d segments q f g there agree near far = record {
  process = agree.process;
  line = λ l own. agree.line l (ap (λ (r : Rights). has_bit r.lines l) (rights_are d q there) ∙ own);
  segment = agree.segment;
  other = λ t out. outside segments q f t near out ∙ sym (outside segments q g t far out);
}

module _ (d : MachineDesc) (described : IsDescription d) (at : Committed) (fit : FitJournals d at.inputs) (reached : IsReached d at.state) (other : ℕ → Bool) (q0 n : ℕ) (g : FlatState) (commits : Commits d at other q0 n g) where
  abbrev next : Committed
  next = with_commit at q0 g

  abbrev f : FlatState
  f = at.state

  others : OthersStay (rights_of d) other q0 f g
  others = (many_steps_are_local d at.inputs other q0 n f g commits.alone).others

  pub reached_next : IsReached d g
  reached_next = counted_steps d at.inputs q0 n f g fit reached commits.alone.leads

  -- another process, with an area apart
  module _ (segments : ℕ → Bool) (q : ℕ) (there : q < length d.processes) (ne : q ≢ q0) (apart : AreApart other segments) where
    untouched : IsUntouched (rights_of d) segments q f g
    untouched = others_are_untouched (rights_of d) other segments q0 q f g (lines_have_one_owner d described) ne apart others

    blocks_alike : (within : HoldsWithin segments q f) → AreAlike (in_area d q segments) (committed_blocks d at) (committed_blocks d next)
    blocks_alike within = image_is_of_the_area d q segments f g at.commits next.commits there (agree_on d segments q f g there untouched.agree within (untouched.within within)) (sym (one_more_elsewhere q0 at.commits q ne))

  module _ (segments : ℕ → Bool) (r : Running) (ne : r.pid.0 ≢ q0) (apart : AreApart other segments) where
    abbrev q : ℕ
    q = r.pid.0

    -- the state to which its steps lead then
    record Next (c : Changes) (before : FlatState) : Type 0 where
      works : Works d next segments r c
      agree : AgreeOn d q segments before works.ahead.state

    within_first : (c : Changes) → Works d at segments r c → HoldsWithin segments q f
    within_first c works = works.alone.within 0 f (omega arith) (none_yet d at.inputs q f)

    works_next : (c : Changes) (works : Works d at segments r c) → Next c works.ahead.state
    works_next c works =
        let there : q < length d.processes = works.ahead.flush.within.process in
        let near = within_first c works in
        let same = untouched segments q there ne apart in
        let mine = (many_steps_are_local d at.inputs segments q r.steps f works.ahead.state works.alone).anywhere g same.agree (same.within near) in
        let reach : IsReached d mine.state = counted_steps d at.inputs q r.steps g mine.state fit reached_next mine.ahead.leads in
        let start : AgreeOn d q segments f g = agree_on d segments q f g there same.agree near (same.within near) in
        let now_in : HoldsWithin segments q works.ahead.state = works.alone.within r.steps works.ahead.state (let e : r.steps ≤ r.steps = omega arith in e) works.alone.leads in
        let then_in : HoldsWithin segments q mine.state = mine.ahead.within r.steps mine.state (let e : r.steps ≤ r.steps = omega arith in e) mine.ahead.leads in
        let reachs : AgreeOn d q segments works.ahead.state mine.state = agree_on d segments q works.ahead.state mine.state there mine.agree now_in then_in in
        let counts : at.commits q ≡ next.commits q = sym (one_more_elsewhere q0 at.commits q ne) in
        let ahead : IsAhead d at.inputs g next.commits segments r c = others_leave_ahead d at.inputs f g mine.state at.commits next.commits segments r c works.ahead start counts mine.ahead.leads reach.flat reachs in
        let e : mine.state ≡ ahead.state = some_same (sym mine.ahead.leads ∙ ahead.steps) in
        record {
          works = record {
            ahead = ahead;
            alone = subst (λ x. alone.IsAhead d at.inputs segments q r.steps g x) e mine.ahead;
            reached = subst (IsReached d) e reach;
            equal = works.equal;
          };
          agree = subst (λ x. AgreeOn d q segments works.ahead.state x) e reachs;
        }

    alike_next : (c : Changes) → Works d at segments r c → AreAlike (in_area d q segments) (committed_blocks d at) (committed_blocks d next)
    alike_next c works = blocks_alike segments q works.ahead.flush.within.process ne apart (within_first c works)

    -- what it is to commit
    alike_commit : (c : Changes) (works : Works d at segments r c) (now : Next c works.ahead.state) → AreAlike (in_area d q segments) (committed_blocks d (with_commit at q works.ahead.state)) (committed_blocks d (with_commit next q now.works.ahead.state))
    alike_commit c works now =
        image_is_of_the_area d q segments works.ahead.state now.works.ahead.state (one_more q at.commits) (one_more q next.commits) works.ahead.flush.within.process now.agree counts
      where
        counts : one_more q at.commits q ≡ one_more q (one_more q0 at.commits) q
        counts = one_more_here q at.commits ∙ ap (λ x. x + 1) (sym (one_more_elsewhere q0 at.commits q ne)) ∙ sym (one_more_here q (one_more q0 at.commits))

    make_next : (c : Changes) (us : List Change) (works : Works d at segments r c) (now : Next c works.ahead.state) → Make d at segments q us works.ahead.state → Make d next segments q us now.works.ahead.state
    make_next c us works now make = record {
      units = make.units;
      blocks = alike_trans _ _ _ _ (alike_under (in_area d q segments) us (committed_blocks d next) (committed_blocks d at) (alike_sym _ _ _ (alike_next c works)))
          (alike_trans _ _ _ _ make.blocks (alike_commit c works now));
    }

    both_next : (p : Copies) (c : Changes) → Works d at segments r c → BothHold (shape_of d) p (in_area d q segments) (committed_blocks d at) → BothHold (shape_of d) p (in_area d q segments) (committed_blocks d next)
    both_next p c works both = record {
      primaries = holds_alike (shape_of d) p false (in_area d q segments) (committed_blocks d at) (committed_blocks d next) (alike_next c works) both.primaries;
      shadows = holds_alike (shape_of d) p true (in_area d q segments) (committed_blocks d at) (committed_blocks d next) (alike_next c works) both.shadows;
    }

    runs_next : (p : Copies) (c : Changes) → Runs d at segments p c r → Runs d next segments p c r
    runs_next p c k = record { works = (works_next c k.works).works; live = k.live; own = k.own; clean = k.clean; both = both_next p c k.works k.both }

    acquires_next : (p : Copies) (c : Changes) (t : Seg) → Acquires d at segments p c r t → Acquires d next segments p c r t
    acquires_next p c t k =
        let before = k.runs.works in
        let now = works_next c before in
        let may = before.ahead.flush in
        record {
          runs = runs_next p c k.runs;
          left = k.left;
          asks = λ h leads. subst (λ x. AsksFor d x r t.0) (some_same (sym now.works.ahead.steps ∙ leads))
              (asks_in_all_shown d before.ahead.state now.works.ahead.state (over_image d at.state at.commits c) r t.0 described (record { within = may.within; live = k.runs.live; left = k.left })
              may.flat now.works.ahead.flush.flat may.shows
              (shows_all_that_agree d before.ahead.state now.works.ahead.state segments (over_image d at.state at.commits c) r may.within.process before.ahead.among now.agree may.shows) (k.asks before.ahead.state before.ahead.steps));
        }

    rested_next : (c : Changes) → Rested d at segments r c → Rested d next segments r c
    rested_next c k = record { works = (works_next (emptied c) k.works).works; none = k.none }

    closes_next : (p : Copies) (c : Changes) → Closes d at segments p c r → Closes d next segments p c r
    closes_next p c k = record {
      rested = rested_next c k.rested;
      both = both_next p (emptied c) k.rested.works k.both;
      cached = committed_alike (in_area d q segments) c.changes _ _ (alike_next (emptied c) k.rested.works) k.cached;
    }

    flush_next : (p : Copies) (c : Changes) (x : FlushAt) → FlushKnows d at segments p c r x → FlushKnows d next segments p c r x
    flush_next p c (flush.Mark x) k =
        let now = works_next c k.works in
        record { works = now.works; make = make_next c (units x c.changes) k.works now k.make; both = both_next p c k.works k.both }
    flush_next p c (flush.First x) k =
        let now = works_next c k.works in
        record {
          works = now.works;
          make = make_next c (units x c.changes) k.works now k.make;
          primaries = holds_alike (shape_of d) (all_written (shape_of d) p false (drop x.cursor (units x c.changes))) false (in_area d q segments) _ _ (alike_commit c k.works now) k.primaries;
          shadows = holds_alike (shape_of d) p true (in_area d q segments) _ _ (alike_next c k.works) k.shadows;
          to_come = to_come_alike d q segments (units x c.changes) k.make.units at p next x.cursor (alike_next c k.works) k.to_come;
        }
    flush_next p c (flush.Second x) k = record {
      rested = rested_next c k.rested;
      units = k.units;
      number = k.number;
      primaries = holds_alike (shape_of d) p false (in_area d q segments) _ _ (alike_next (emptied c) k.rested.works) k.primaries;
      shadows = holds_alike (shape_of d) (all_written (shape_of d) p true (drop (x.cursor - 1) (units x c.changes))) true (in_area d q segments) _ _ (alike_next (emptied c) k.rested.works) k.shadows;
      cached = committed_alike (in_area d q segments) (units x c.changes) _ _ (alike_next (emptied c) k.rested.works) k.cached;
    }
    flush_next p c (flush.Close x) k = closes_next p c k

  pub hand_next : (p : Copies) (c : Changes) (h : Hand) → IsOther d other q0 h → HandKnows d at p c h → HandKnows d next p c h
  hand_next p c hand.Down a k = tt
  hand_next p c hand.Seek a k = tt
  hand_next p c (hand.Claiming x y) a k = tt
  hand_next p c (hand.Running r) a k = runs_next (segments_of d (hand.Running r)) r a.0 a.1 p c k
  hand_next p c (hand.Acquiring r t y) a k = acquires_next (segments_of d (hand.Acquiring r t y)) r a.0 a.1 p c t k
  hand_next p c (hand.Flushing r why mask x) a k = (flush_next (segments_of d (hand.Flushing r why mask x)) r a.0 a.1 p c x k.0, k.1)
  hand_next p c (hand.Unlocking r why mask l) a k = (closes_next (segments_of d (hand.Unlocking r why mask l)) r a.0 a.1 p c k.0, k.1, k.2)
  hand_next p c (hand.Leaving x l) a k = tt
  hand_next p c (hand.Recovering x) a k = k
