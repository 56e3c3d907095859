-- A turn of a processor that recovers nobody keeps what stands of the blocks, while no memory is to be copied.
use Rattle.std.proofs.Common.{◌≡◌, ◌⊎◌, inl, inr, ℕ, ◌<◌, Bool, true, false, ◌==◌, nat_le, None, List, length, refl, ap, sym, ◌∙◌, subst, arith}
use Rattle.std.proofs.lemmas.Bool.{cond_both, cond-true, cond-false, cases_Bool}
use Rattle.seq_words.specs.Description.{IsDescription}
use Rattle.seq_words.specs.declared.description.MachineDesc.{MachineDesc}
use Rattle.seq_words.specs.declared.names.Seg.{Seg}
use Rattle.seq_words.specs.declared.events.Event.{Event}
use Rattle.seq_flat.specs.Reached.{IsReached, FitJournals}
use Rattle.seq_layout.specs.Shapes.{shape_of}
use Rattle.seq_layout.specs.Copies.{first_copy, first_block}
use Rattle.seq_process.specs.declared.running.Running.{Running}
use Rattle.seq_cache.specs.Changes.{IsCache}
use Rattle.seq_kernel.specs.declared.outcomes.Cause.{Cause}
use Rattle.seq_kernel.specs.declared.outcomes.Note.{Note}
use Rattle.seq_kernel.specs.Calls.{lines_of}
use Rattle.seq_kernel.specs.Bounds.{AreReadable}
use Rattle.seq_kernel.specs.Shown.{HoldsInput}
use Rattle.seq_image.specs.Depends.{AreWhole}
use Rattle.seq_locks.specs.declared.claim.Claim.{Claim}
use Rattle.seq_locks.specs.declared.stages.Shadow as shadow_stage
use Rattle.seq_locks.specs.Turns.{is_taken}
use Rattle.seq_words.specs.Masks.{has_bit}
use Rattle.seq_turns.specs.declared.hand.Hand.{Hand}
use Rattle.seq_turns.specs.declared.hand.Hand.TheVariants as hand
use Rattle.seq_turns.specs.declared.hand.FlushAt.{FlushAt}
use Rattle.seq_turns.specs.declared.hand.FlushAt.TheVariants as flush
use Rattle.seq_turns.specs.declared.hand.RecoveryAt.{RecoveryAt}
use Rattle.seq_turns.specs.Machines.{Machine, Move, Turn, idles, after_move}
use Rattle.seq_turns.specs.Machines.Turn.{Moves, Stops}
use Rattle.seq_io.specs.Changes.Change.{Unchanged}
use Rattle.seq_turns.specs.Operations.{acquires, unit_count, flush_move}
use Rattle.seq_turns.specs.Processors.{runs}
use Rattle.seq_turns.specs.Events.{after_turn}
use Rattle.seq_turns.proofs.Functions.{update_same}
use Rattle.seq_stands.specs.Grips.{Stage, grip, flush_stage}
use Rattle.seq_stands.specs.Grips.Kind.{Run}
use Rattle.seq_stands.specs.Grips.Stage.{Holding}
use Rattle.seq_stands.specs.Grips.Grip.{On}
use Rattle.seq_stands.specs.Words.{words_of, Grips, GripHolds, WordsStand}
use Rattle.seq_stands.specs.Hands.{IsHand}
use Rattle.seq_stands.proofs.LockTurns.{only_unchanged}
use Rattle.seq_invariant.specs.BlockApart.{owners_of}
use Rattle.seq_invariant.specs.BlockWorks.{Committed}
use Rattle.seq_invariant.specs.BlockHands.{HandKnows}
use Rattle.seq_invariant.specs.BlockLeft.{IsLeft}
use Rattle.seq_invariant.specs.BlockFrame.{IsWithin, IsApart, KeepsLeft, IsAmidPass}
use Rattle.seq_invariant.specs.BlockAreas.{hand_area}
use Rattle.seq_invariant.specs.BlockTurns.{AfterTurn}
use Rattle.seq_invariant.proofs.BlockGrants.{refused}
use Rattle.seq_invariant.proofs.BlockInside.{flushes_write_inside}
use Rattle.seq_invariant.proofs.BlockTurns.{flushes_keep, steps_keep, acquires_keep}
use Rattle.seq_lines.specs.Arrivals.{arrived}
use Rattle.seq_lines.specs.Inside.{HandIsInside, IsMask}
use Rattle.seq_lines.proofs.Gives.{processes_hold_input, memories_are_readable}
use Rattle.seq_invariant.specs.Holds.{Holds}
use Rattle.seq_invariant.proofs.Left.{deserted_word, gripped_is_alive, gripped_is_kept}
use Rattle.seq_invariant.proofs.Apart.{is_apart}
use Rattle.seq_invariant.proofs.Kept.{IsQuiet, unchanged_quiet, only_names, calm_done, keeps_left}
use Rattle.seq_invariant.proofs.Moved.{TurnMade, quiet_made, pass_made}
use Rattle.seq_invariant.proofs.Tame.{not_recovering, tame_left, tame_made}
use Rattle.seq_invariant.proofs.Found.{runs_tame, acquires_tame}
use Rattle.seq_invariant.proofs.Granted.{nobody_owns, at_rest}
use Rattle.seq_invariant.proofs.Flushing.{IsAmid, IsFirst, flush_tame, flush_calm, pass_stays, mark_quiet, status_names}
use Rattle.seq_invariant.proofs.Committing.{commit_move, commit_made}

module _ (d : MachineDesc) (events : List Event) (at : Committed) (m : Machine) (p : ℕ) (described : IsDescription d) (st : Holds d events at m) where
  pub apart : IsApart d m p
  apart = is_apart d (owners_of at.state) m st.words.words st.locks p

  pub reached : IsReached d at.state
  reached = st.blocks.committed.reached

  fit : FitJournals d at.inputs
  fit = st.blocks.committed.fit

  pub known : (h : Hand) → m.hand p ≡ h → HandKnows d at m.copies (m.cache p) h
  known h e = subst (HandKnows d at m.copies (m.cache p)) e (st.blocks.hands p)

  pub is_hand : (h : Hand) → m.hand p ≡ h → IsHand d p (m.incarnation p) h
  is_hand h e = subst (IsHand d p (m.incarnation p)) e (st.words.hands.hands p)

  pub gripped : (h : Hand) (q : ℕ) (stage : Stage) → m.hand p ≡ h → grip h ≡ On q stage → Grips (words_of d m) p q stage
  gripped h q stage e g = subst (GripHolds (words_of d m) p) (ap grip e ∙ g) (st.words.words.grips p)

  pub no_pass : (h : Hand) → m.hand p ≡ h → (IsAmidPass h → ⊥) → IsAmidPass (m.hand p) → ⊥
  no_pass h e none = subst (λ k. IsAmidPass k → ⊥) (sym e) none

  whole : AreWhole (first_block (shape_of d) m.copies)
  whole = record { block = λ e n. st.blocks.blocks.whole e n (first_copy (shape_of d) m.copies e) }

  readable : AreReadable d m.copies
  readable = memories_are_readable d (arrived d events) at.state m described reached st.words.service st.lines

  input : (q : ℕ) → q < length d.processes → (r : Running) → r.pid.0 ≡ q → (l : ℕ) → has_bit (lines_of d r) l ≡ true → HoldsInput d m.copies at.inputs l
  input q lt r same l bit = subst (λ i. HoldsInput d m.copies i l) (sym st.input) (processes_hold_input d (arrived d events) at.state m r.pid.0 described st.words.service st.lines (subst (λ x. x < length d.processes) (sym same) lt) l bit)

  -- what a turn leaves: words and caches
  abbrev pub Words : Turn → Type 0
  Words t = WordsStand (words_of d (after_turn d m p t))

  abbrev pub Cache : Turn → Type 0
  Cache t = IsCache ((after_turn d m p t).cache p)

  abbrev pub Made : Turn → Type 0
  Made t = TurnMade d at m p t

  pub cache_of : (move : Move) → Cache (Moves move) → IsCache move.cache
  cache_of move c = subst IsCache (update_same m.cache p move.cache) c

  -- nothing changes
  beyond_left : (forward : Bool) → IsLeft d m (length d.processes) forward → ⊥
  beyond_left forward (inl h) = let lt = h.inside in let c : ⊥ = omega (arith, lt) in c
  beyond_left forward (inr h) = let lt = h.inside in let c : ⊥ = omega (arith, lt) in c

  pub idle_made : (h : Hand) → m.hand p ≡ h → (IsAmidPass h → ⊥) → ((x : RecoveryAt) → h ≡ hand.Recovering x → ⊥) → (note : Note) → Made (Moves (record (idles m p) { note = note }))
  idle_made h e none calm note = quiet_made d at m p (record (idles m p) { note = note }) refl st.blocks apart
      (keeps_left d m p (length d.processes) (record (idles m p) { note = note }) (λ x a forward k. absurd (calm x (sym e ∙ k))) (λ x a forward k. absurd (calm x (sym e ∙ k))) (only_names d m.copies _ Unchanged (only_unchanged d _)) beyond_left
      (λ forward k. let lt = k.inside in let c : ⊥ = omega (arith, lt) in c))
      (st.blocks.hands p) (st.blocks.caches p) (unchanged_quiet d) (no_pass h e none)

  -- a process that runs
  pub ran : (r : Running) → m.hand p ≡ hand.Running r → Words (runs d m p r) → Cache (runs d m p r) → (runs d m p r ≡ Stops → Made Stops) → Made (runs d m p r)
  ran r e st' cache stops =
      let there = (gripped (hand.Running r) r.pid.0 (Holding Run) e refl).process in
      tame_made d at m p r.pid.0 (Holding Run) (ap grip e) (λ x. x) st.words.words st.blocks apart (no_pass (hand.Running r) e (λ x. x)) (runs d m p r) (runs_tame d m p r)
      (steps_keep d at m p r described fit reached whole readable (input r.pid.0 there r refl) (known (hand.Running r) e)) st' cache stops

  -- a lock that is acquired
  pub acquired : (r : Running) (t : Seg) (c : Claim shadow_stage.Shadow) → m.hand p ≡ hand.Acquiring r t c → Words (acquires d m p r t c) → Cache (acquires d m p r t c) → (acquires d m p r t c ≡ Stops → Made Stops) → Made (acquires d m p r t c)
  acquired r t c e st' cache stops =
      tame_made d at m p r.pid.0 (Holding Run) (ap grip e) (λ x. x) st.words.words st.blocks apart (no_pass (hand.Acquiring r t c) e (λ x. x)) (acquires d m p r t c) (acquires_tame d m p r t c (is_hand (hand.Acquiring r t c) e).place)
      (knows (cases_Bool (is_taken (shape_of d) m.copies c.at true))) st' cache stops
    where
      knows : (is_taken (shape_of d) m.copies c.at true ≡ true) ⊎ (is_taken (shape_of d) m.copies c.at true ≡ false) → AfterTurn d at m (acquires d m p r t c)
      knows (inl taken) = subst (AfterTurn d at m) (sym (cond-true _ _ _ taken)) (refused d described at m p r t c fit reached (is_hand (hand.Acquiring r t c) e).place (known (hand.Acquiring r t c) e))
      knows (inr free) = acquires_keep d at m p (m.incarnation p) r t c described fit reached (is_hand (hand.Acquiring r t c) e) (nobody_owns d at m st.words st.locks st.blocks p r t c e free) (at_rest d at m st.words st.locks st.blocks p r t c e free) (known (hand.Acquiring r t c) e)

  -- a flush
  pub flushed : (r : Running) (why : Cause) (mask : ℕ) (f : FlushAt) → m.hand p ≡ hand.Flushing r why mask f → Words (Moves (flush_move d m p r why mask f)) → Cache (Moves (flush_move d m p r why mask f)) → Made (Moves (flush_move d m p r why mask f))
  flushed r why mask f e = go f e
    where
      there : (x : FlushAt) → m.hand p ≡ hand.Flushing r why mask x → r.pid.0 < length d.processes
      there x i = (gripped (hand.Flushing r why mask x) r.pid.0 (flush_stage x) i refl).process

      bits : (x : FlushAt) → m.hand p ≡ hand.Flushing r why mask x → IsMask d mask
      bits x i = subst (HandIsInside d) i (st.inside p)

      stays : (x : FlushAt) (i : m.hand p ≡ hand.Flushing r why mask x) → (flush_move d m p r why mask x).commit ≡ None → Words (Moves (flush_move d m p r why mask x)) → KeepsLeft d m (after_move p (flush_move d m p r why mask x) m)
      stays x i none st' = tame_left d m p r.pid.0 (flush_stage x) (ap grip i) (flush_calm x) st.words.words (flush_move d m p r why mask x) (flush_tame d m p r why mask (there x i) x (is_hand (hand.Flushing r why mask x) i) none) st'

      quiet : (x : FlushAt) (i : m.hand p ≡ hand.Flushing r why mask x) → (flush_move d m p r why mask x).commit ≡ None → IsQuiet d (flush_move d m p r why mask x).change → (IsAmidPass (hand.Flushing r why mask x) → ⊥) → Words (Moves (flush_move d m p r why mask x)) → Cache (Moves (flush_move d m p r why mask x)) → Made (Moves (flush_move d m p r why mask x))
      quiet x i none is calm st' cache = quiet_made d at m p (flush_move d m p r why mask x) none st.blocks apart (stays x i none st')
          (flushes_keep d at m p r why mask x none (known (hand.Flushing r why mask x) i)) (cache_of (flush_move d m p r why mask x) cache) is (no_pass (hand.Flushing r why mask x) i calm)

      pass : (x : FlushAt) (i : m.hand p ≡ hand.Flushing r why mask x) → (flush_move d m p r why mask x).commit ≡ None → IsAmid x → Words (Moves (flush_move d m p r why mask x)) → Cache (Moves (flush_move d m p r why mask x)) → Made (Moves (flush_move d m p r why mask x))
      pass x i none amid st' cache = pass_made d at m p (flush_move d m p r why mask x) none st.blocks apart (stays x i none st')
          (flushes_keep d at m p r why mask x none (known (hand.Flushing r why mask x) i)) (cache_of (flush_move d m p r why mask x) cache)
          (subst (λ h. IsWithin d (hand_area d h) (flush_move d m p r why mask x).change) (sym i) (flushes_write_inside d at m p r why mask x (known (hand.Flushing r why mask x) i)))
          (λ a is. pass_stays d m p r why mask (there x i) x amid a (ap (λ h. hand_area d h a) (sym i) ∙ is))

      none_of : (x : FlushAt) → (IsFirst x → ⊥) → (flush_move d m p r why mask x).commit ≡ None
      none_of (flush.Mark x) other = cond_both (x.cursor == 0) _ _ (λ (move : Move). move.commit ≡ None) (λ _. refl) (λ _. refl)
      none_of (flush.First x) other = absurd (other tt)
      none_of (flush.Second x) other = cond_both (x.cursor == 0) _ _ (λ (move : Move). move.commit ≡ None) (λ _. refl) (λ _. refl)
      none_of (flush.Close x) other = cond_both (x.cursor == 0) _ _ (λ (move : Move). move.commit ≡ None) (λ _. refl) (λ _. refl)

      go : (x : FlushAt) → m.hand p ≡ hand.Flushing r why mask x → Words (Moves (flush_move d m p r why mask x)) → Cache (Moves (flush_move d m p r why mask x)) → Made (Moves (flush_move d m p r why mask x))
      go (flush.Mark x) i st' cache = quiet (flush.Mark x) i (none_of (flush.Mark x) (λ z. z)) (mark_quiet d m p r why mask (there (flush.Mark x) i) (flush.Mark x) (λ z. z)) (λ z. z) st' cache
      go (flush.Close x) i st' cache = quiet (flush.Close x) i (none_of (flush.Close x) (λ z. z)) (mark_quiet d m p r why mask (there (flush.Close x) i) (flush.Close x) (λ z. z)) (λ z. z) st' cache
      go (flush.Second x) i st' cache = pass (flush.Second x) i (none_of (flush.Second x) (λ z. z)) tt st' cache
      go (flush.First x) i st' cache = first (cases_Bool (nat_le (unit_count m p x) x.cursor)) st' cache
        where
          first : (nat_le (unit_count m p x) x.cursor ≡ true) ⊎ (nat_le (unit_count m p x) x.cursor ≡ false) → Words (Moves (flush_move d m p r why mask (flush.First x))) → Cache (Moves (flush_move d m p r why mask (flush.First x))) → Made (Moves (flush_move d m p r why mask (flush.First x)))
          first (inr more) = λ st' cache. pass (flush.First x) i (ap (λ (move : Move). move.commit) (cond-false _ _ _ more)) tt st' cache
          first (inl done) = subst (λ (move : Move). Words (Moves move) → Cache (Moves move) → Made (Moves move)) (sym (cond-true _ _ _ done)) (λ st' cache.
              commit_made d described at m p st.words.words st.locks st.blocks apart r why mask x i (bits (flush.First x) i) done (known (hand.Flushing r why mask (flush.First x)) i)
              (tame_left_commit st') (cache_of (commit_move d m p r why mask x) cache))
            where
              tame_left_commit : Words (Moves (commit_move d m p r why mask x)) → KeepsLeft d m (after_move p (commit_move d m p r why mask x) m)
              tame_left_commit st' = keeps_left d m p r.pid.0 (commit_move d m p r why mask x) (calm_done (m.hand p) (not_recovering (m.hand p) r.pid.0 (flush_stage (flush.First x)) (ap grip i) (λ z. z)))
                  (λ y a forward k. let c : ⊥ = cc in absurd c)
                  (status_names d m p r why mask (there (flush.First x) i) x.pid.0 false _ (is_hand (hand.Flushing r why mask (flush.First x)) i).process)
                  (λ forward is. gripped_is_kept d m st.words.words p r.pid.0 (flush_stage (flush.First x)) forward (ap grip i) (not_recovering (m.hand p) r.pid.0 (flush_stage (flush.First x)) (ap grip i) (λ z. z)) is)
                  (λ forward is. gripped_is_alive d (after_move p (commit_move d m p r why mask x) m) st' p r.pid.0 _ (ap grip (update_same m.hand p (commit_move d m p r why mask x).hand))
                  (deserted_word d (after_move p (commit_move d m p r why mask x) m) st' r.pid.0 forward is))
