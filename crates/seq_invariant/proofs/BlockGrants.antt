-- The second turn of an acquire keeps what the hand knows: with it the segment comes into its area.
use Rattle.std.proofs.Math.Path.{fun_ext}
use Rattle.std.proofs.Common.{◌≡◌, ◌⊎◌, ℕ, ◌+◌, ◌-◌, ◌^◌, ◌<◌, Bool, true, false, ◌||◌, ◌==◌, length, None, inl, inr, refl, sym, ap, ◌∙◌, subst, arith}
use Rattle.std.proofs.lemmas.Bool.{cond_both, cases_Bool, cases_eq, eq-eqb, ne_eqb, eqb-true, false≢true}
use Rattle.seq_words.specs.Masks.{has_bit}
use Rattle.seq_words.specs.Description.{IsDescription}
use Rattle.seq_words.specs.declared.description.MachineDesc.{MachineDesc}
use Rattle.seq_words.specs.declared.names.Seg.{Seg}
use Rattle.seq_pair.specs.declared.halves.Pair.{Pair}
use Rattle.seq_pair.specs.Turns.{IsAligned, unstruck}
use Rattle.seq_flat.specs.State.{segment_at}
use Rattle.seq_layout.specs.Shapes.{shape_of, segment_extent}
use Rattle.seq_layout.specs.Copies.{Copies}
use Rattle.seq_process.specs.declared.running.Running.{Running}
use Rattle.seq_cache.specs.Changes.{Changes}
use Rattle.seq_locks.specs.declared.claim.Claim.{Claim}
use Rattle.seq_locks.specs.declared.stages.Shadow as shadow_stage
use Rattle.seq_locks.specs.Turns.{is_taken, word_at}
use Rattle.seq_kernel.specs.declared.outcomes.Cause.TheVariants as cause
use Rattle.seq_kernel.specs.declared.outcomes.Reason.TheVariants.{Lock}
use Rattle.seq_kernel.specs.Turns.{half_answered}
use Rattle.seq_kernel.specs.Calls.{granted}
use Rattle.seq_kernel.specs.Bounds.{IsRunning}
use Rattle.seq_kernel.specs.Kept.{KeepsGrant}
use Rattle.seq_kernel.specs.Refinement.{AsksFor}
use Rattle.seq_kernel.proofs.KeptRunning.{with_pair as kept_pair, grants_keep_bounds}
use Rattle.seq_kernel.proofs.RefineCallsBits.{bit_on_here, bit_on_other}
use Rattle.seq_runs.proofs.Ahead.{area_grows, many_steps_are_local}
use Rattle.seq_image.specs.Areas.{in_area}
use Rattle.seq_flat.specs.Reached.{IsReached, FitJournals}
use Rattle.seq_image.proofs.Areas.{area_cases, process_in_area, segment_in_area}
use Rattle.seq_image.specs.Ahead.{IsAhead, RunsAhead, and_segment}
use Rattle.seq_image.proofs.GrantsAhead.{grants_stay_ahead}
use Rattle.seq_stands.specs.Locks.{whole_if, half_if, is_lock}
use Rattle.seq_stands.proofs.LockSteps.{no_bit, or_both, or_second}
use Rattle.seq_turns.specs.declared.hand.Hand.TheVariants as hand
use Rattle.seq_turns.specs.Machines.{Machine, copies_after}
use Rattle.seq_kernel.specs.Views.{Blocks}
use Rattle.seq_turns.specs.Causes.{finds}
use Rattle.seq_turns.specs.Reading.{lock_word}
use Rattle.seq_turns.specs.Operations.{sets, acquires}
use Rattle.seq_invariant.specs.BlockAreas.{is_whole, segments_of, BothHold, Rests}
use Rattle.seq_invariant.specs.BlockWorks.{Committed, committed_blocks, Works}
use Rattle.seq_invariant.specs.BlockHands.{HandKnows}
use Rattle.seq_invariant.specs.BlockTurns.{AfterTurn}
use Rattle.seq_invariant.proofs.BlockCopies.{SameBlocks, word_same, same_keeps}
use Rattle.seq_invariant.proofs.BlockStays.{both_kept}
use Rattle.seq_invariant.proofs.BlockStops.{rest_holds, both_rest}
use Rattle.seq_invariant.proofs.BlockFollows.{wholes, whole_is}
use Rattle.seq_invariant.proofs.BlockFound.{found_knows}
use Rattle.seq_invariant.proofs.BlockSteps.{works_step, works_same, both_same}

-- a process with other halves, of which that which isn't struck is the same
pub with_pair : (d : MachineDesc) (at : Committed) (segments : ℕ → Bool) (r : Running) (c : Changes) (q : Pair) → unstruck q ≡ unstruck r.pair → IsAligned q.struck q.a q.b →
    IsAhead d at.inputs at.state at.commits segments r c → IsAhead d at.inputs at.state at.commits segments (record r { pair = q }) c
with_pair d at segments r c q same aligned ahead =
    let may = ahead.flush in
    record {
      state = ahead.state;
      steps = ahead.steps;
      flush = record {
        within = kept_pair d r q may.within aligned;
        unused = record { reads = may.unused.reads; writes = may.unused.writes };
        flat = may.flat;
        shows = record {
          whole = may.shows.whole;
          registers = same ∙ may.shows.registers;
          end = may.shows.end;
          private = may.shows.private;
          segment = λ t lt. record { held = (may.shows.segment t lt).held; bytes = (may.shows.segment t lt).bytes };
          line = λ l own. record { read = (may.shows.line l own).read; written = (may.shows.line l own).written; outbox = (may.shows.line l own).outbox };
        };
        bytes = may.bytes;
        inside = may.inside;
      };
      among = ahead.among;
      cache = ahead.cache;
      counts = ahead.counts;
    }

-- with one segment more at rest
pub both_more : (d : MachineDesc) (p : Copies) (q : ℕ) (segments wider : ℕ → Bool) (t : ℕ) (o : Blocks) → q < length d.processes → ((u : ℕ) → wider u ≡ true → (segments u ≡ true) ⊎ (u ≡ t)) →
    BothHold (shape_of d) p (in_area d q segments) o → Rests (shape_of d) p o (segment_extent (shape_of d) t) → BothHold (shape_of d) p (in_area d q wider) o
both_more d p q segments wider t o there more both rests = record { primaries = rest_holds (shape_of d) p false (in_area d q wider) o each; shadows = rest_holds (shape_of d) p true (in_area d q wider) o each }
  where
    each : (e : ℕ) → in_area d q wider e ≡ true → Rests (shape_of d) p o e
    each e inside = elim (area_cases d q wider e inside) [
      | inl own ↦ both_rest (shape_of d) p (in_area d q segments) o e (subst (λ x. in_area d q segments x ≡ true) (sym own) (process_in_area d q segments)) both
      | inr (u, lt, is, extent) ↦ elim (more u is) [
        | inl before ↦ both_rest (shape_of d) p (in_area d q segments) o e (subst (λ x. in_area d q segments x ≡ true) (sym extent) (segment_in_area d q segments u there lt before)) both
        | inr new ↦ subst (Rests (shape_of d) p o) (ap (λ x. length d.processes + x) (sym new) ∙ sym extent) rests
      ]
    ]

module _ (d : MachineDesc) (described : IsDescription d) (at : Committed) (m : Machine) (p : ℕ) (r : Running) (t : Seg) (now : Claim shadow_stage.Shadow) (fit : FitJournals d at.inputs) (reached : IsReached d at.state)
    (place : now.at ≡ lock_word d t.0) (k : HandKnows d at m.copies (m.cache p) (hand.Acquiring r t now)) where
  abbrev c : Changes
  c = m.cache p

  abbrev segments : ℕ → Bool
  segments = segments_of d (hand.Acquiring r t now)

  works : Works d at segments r c
  works = k.runs.works

  asked : AsksFor d works.ahead.state r t.0
  asked = k.asks works.ahead.state works.ahead.steps

  running : IsRunning d r
  running = record { within = works.ahead.flush.within; live = k.runs.live; left = k.left }

  here : (u : ℕ) → is_lock d u now.at ≡ true → u ≡ t.0
  here u is = let e : segment_extent (shape_of d) t.0 ≡ segment_extent (shape_of d) u = sym (ap (λ w. w.extent.0) place) ∙ eqb-true _ _ is in let x : u ≡ t.0 = omega (arith, e) in x

  -- the segments of its area are those that it holds
  area_held : (u : ℕ) → segments u ≡ has_bit r.held u
  area_held u = go (cases_Bool (is_lock d u now.at))
    where
      go : (is_lock d u now.at ≡ true) ⊎ (is_lock d u now.at ≡ false) → segments u ≡ has_bit r.held u
      go (inl is) = ap (λ b. is_whole (half_if b r.pid.0 (whole_if (has_bit r.held u) r.pid.0))) is ∙ sym (ap (has_bit r.held) (here u is) ∙ asked.free)
      go (inr other) = ap (λ b. is_whole (half_if b r.pid.0 (whole_if (has_bit r.held u) r.pid.0))) other ∙ whole_is (has_bit r.held u) r.pid.0

  area_alone : segments ≡ wholes r 0
  area_alone = fun_ext (λ u. area_held u ∙ sym (or_both (has_bit r.held u) (has_bit 0 u) (has_bit r.held u) refl (no_bit u)) ∙ sym (whole_is (has_bit r.held u || has_bit 0 u) r.pid.0))

  pub refused : AfterTurn d at m (finds d m p r c (cause.Wait (Lock t (record { 0 = word_at m.copies now.at true - 1 }))) 0)
  refused = found_knows d described at m p r c (cause.Wait (Lock t (record { 0 = word_at m.copies now.at true - 1 }))) 0
      (works_same d at m.copies segments (wholes r 0) area_alone r c works) (both_same d at m.copies segments (wholes r 0) area_alone r.pid.0 r.pid.0 refl k.runs.both) k.runs.clean
      (record { lives = λ on. absurd on; given = λ u bit. absurd (false≢true (sym (no_bit u) ∙ bit)) })

  module _ (free : (segment_at at.state t.0).owner ≡ None) (rests : Rests (shape_of d) m.copies (committed_blocks d at) (segment_extent (shape_of d) t.0)) where
    abbrev wider : ℕ → Bool
    wider = and_segment segments t.0

    abbrev runs_ahead : RunsAhead d at.inputs at.state at.commits segments r c
    runs_ahead = record { ahead = works.ahead; running = running; own = k.runs.own; held = λ u lt. area_held u }

    same_segment : segment_at works.ahead.state t.0 ≡ segment_at at.state t.0
    same_segment = (many_steps_are_local d at.inputs segments r.pid.0 r.steps at.state works.ahead.state works.alone).others.segment t.0 (area_held t.0 ∙ asked.free)

    kept : KeepsGrant d r t.0
    kept = grants_keep_bounds d r t.0 running asked.known asked.free

    ahead : IsAhead d at.inputs at.state at.commits wider (granted r t.0) c
    ahead = (grants_stay_ahead d at.inputs at.state at.commits segments r c t.0 runs_ahead described asked same_segment free).0

    granted_works : Works d at wider (granted r t.0) c
    granted_works = works_step d at wider r (granted r t.0) c c fit reached refl refl (λ none. ap (λ h. half_answered h 0) (works.equal none)) works.ahead.state
        (area_grows d at.inputs segments wider r.pid.0 r.steps at.state works.ahead.state (λ u is. ap (λ b. b || (u == t.0)) is) works.alone) ahead

    area_after : wider ≡ segments_of d (hand.Running (granted r t.0))
    area_after = fun_ext (λ u. go u (cases_eq u t.0) ∙ sym (whole_is (has_bit (granted r t.0).held u) r.pid.0))
      where
        go : (u : ℕ) → (u ≡ t.0) ⊎ (u ≡ t.0 → ⊥) → wider u ≡ has_bit (r.held + 2 ^ t.0) u
        go u (inl e) = or_second (segments u) (u == t.0) (eq-eqb u t.0 e) ∙ sym (ap (has_bit (r.held + 2 ^ t.0)) e ∙ bit_on_here r.held t.0 asked.free)
        go u (inr ne) = or_both (segments u) (u == t.0) (has_bit r.held u) (area_held u) (ne_eqb u t.0 ne) ∙ sym (bit_on_other r.held t.0 u ne asked.free)

    more : (u : ℕ) → wider u ≡ true → (segments u ≡ true) ⊎ (u ≡ t.0)
    more u is = go (cases_eq u t.0)
      where
        go : (u ≡ t.0) ⊎ (u ≡ t.0 → ⊥) → (segments u ≡ true) ⊎ (u ≡ t.0)
        go (inl e) = inr e
        go (inr ne) = inl (sym (or_both (segments u) (u == t.0) (segments u) refl (ne_eqb u t.0 ne)) ∙ is)

    got : (q : Copies) → SameBlocks m.copies q → HandKnows d at q c (hand.Running (granted r t.0))
    got q same =
        let after : ℕ → Bool = segments_of d (hand.Running (granted r t.0)) in
        let both : BothHold (shape_of d) m.copies (in_area d r.pid.0 wider) (committed_blocks d at) = both_more d m.copies r.pid.0 segments wider t.0 (committed_blocks d at) works.ahead.flush.within.process more k.runs.both rests in
        let both' : BothHold (shape_of d) m.copies (in_area d r.pid.0 after) (committed_blocks d at) = both_same d at m.copies wider after area_after r.pid.0 r.pid.0 refl both in
        record {
          works = works_same d at m.copies wider after area_after (granted r t.0) c granted_works;
          live = k.runs.live;
          own = kept.own c.changes k.runs.own;
          clean = λ none. absurd (let x : ⊥ = omega (arith, none) in x);
          both = both_kept (shape_of d) m.copies q (in_area d r.pid.0 after) (committed_blocks d at) (record { primaries = same_keeps (shape_of d) m.copies q false _ same; shadows = same_keeps (shape_of d) m.copies q true _ same }) both';
        }

    pub acquires_knows : AfterTurn d at m (acquires d m p r t now)
    acquires_knows = cond_both (is_taken (shape_of d) m.copies now.at true) _ _ (AfterTurn d at m) (λ _. refused)
        (λ _. got (copies_after (sets d m now.at true now.value) m.copies) (word_same d m.copies now.at.extent.0 now.at.word true now.value))
