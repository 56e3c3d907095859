-- A turn strikes no half: what is struck of what a processor runs was struck before.
use Rattle.std.proofs.Common.{◌≡◌, ℕ, ◌-◌, true, false, ◌==◌, Option, Some, None, refl, sym, ap, ◌∙◌, subst}
use Rattle.std.specs.Prelude.{nat_le}
use Rattle.std.proofs.lemmas.Bool.{cond_both}
use Rattle.seq_words.specs.declared.half.Half.{Half}
use Rattle.seq_words.specs.declared.names.Seg.{Seg}
use Rattle.seq_words.specs.declared.description.MachineDesc.{MachineDesc}
use Rattle.seq_flat.specs.declared.state.End.{End}
use Rattle.seq_flat.specs.declared.state.End.TheVariants.{Live, Exited, Trapped}
use Rattle.seq_layout.specs.Shapes.{shape_of}
use Rattle.seq_cache.specs.Changes.{Changes}
use Rattle.seq_process.specs.declared.running.Running.{Running}
use Rattle.seq_process.specs.Contexts.{end_of}
use Rattle.seq_locks.specs.declared.claim.Claim.{Claim}
use Rattle.seq_locks.specs.declared.stages.Shadow.{Shadow}
use Rattle.seq_locks.specs.Turns.{is_taken, word_at}
use Rattle.seq_kernel.specs.Steps.{step_of}
use Rattle.seq_kernel.specs.Turns.{Turned}
use Rattle.seq_kernel.specs.declared.outcomes.Cause.{Cause}
use Rattle.seq_kernel.specs.declared.outcomes.Cause.TheVariants as cause
use Rattle.seq_kernel.specs.declared.outcomes.Reason.TheVariants.{Lock}
use Rattle.seq_kernel.specs.declared.outcomes.Outcome.{Outcome}
use Rattle.seq_kernel.specs.declared.outcomes.Outcome.TheVariants as outcome
use Rattle.seq_kernel.proofs.TurnCauses.{turns_keep_halves}
use Rattle.seq_turns.specs.declared.hand.Hand.{Hand}
use Rattle.seq_turns.specs.declared.hand.Hand.TheVariants as hand
use Rattle.seq_turns.specs.declared.hand.FlushAt.{FlushAt}
use Rattle.seq_turns.specs.declared.hand.FlushAt.TheVariants as flush
use Rattle.seq_turns.specs.declared.hand.ReleaseAt.{ReleaseAt}
use Rattle.seq_turns.specs.declared.hand.ReleaseAt.TheVariants as release
use Rattle.seq_turns.specs.declared.hand.RecoveryAt.{RecoveryAt}
use Rattle.seq_turns.specs.declared.hand.RecoveryAt.TheVariants as recovery
use Rattle.seq_recover.specs.declared.recovery.Recovery.{Recovery}
use Rattle.seq_recover.specs.declared.recovery.Claimed.{Claimed}
use Rattle.seq_recover.specs.declared.recovery.Locks.{Locks}
use Rattle.seq_turns.specs.Machines.{Machine, Move, Turn}
use Rattle.seq_turns.specs.Machines.Turn.{Moves, Looks, Copies_unit, Stops}
use Rattle.seq_turns.specs.Functions.{lowest}
use Rattle.seq_words.specs.Masks.{has_bit}
use Rattle.seq_memory.specs.declared.element.State.{State}
use Rattle.seq_ruling.proofs.Lowest.{is_lowest}
use Rattle.seq_turns.specs.Reading.{lock_word, context_of, copied_memory, is_copied, ruling, goes_forward}
use Rattle.seq_turns.specs.Causes.{released, after_releases, release_next, follows, agree, finds}
use Rattle.seq_turns.specs.Operations.{taken_up, claims, acquires, unit_count, flush_move, less, unlock_move, leave_move}
use Rattle.seq_recover.specs.Reading.{left_from}
use Rattle.seq_turns.specs.Recoveries.{begins, claimed_move, locks_cleared, recovery_move}
use Rattle.seq_turns.specs.Processors.{is_free, looks, deserted, seeks, after_step, runs, someone_amid, copies_or_waits, seeks_or_copies, runs_or_copies, turn}
use Rattle.seq_course.specs.Troubles.{struck_in}

-- of a hand no half is struck but this one, if any
abbrev pub IsAsStruck : Option Half → Hand → Type 0
IsAsStruck o after = (h : Half) → struck_in after ≡ Some h → o ≡ Some h

-- nor of what a turn leaves; a unit is copied of a memory that is to be copied, where memories are in these states
abbrev pub LeavesAsStruck : (ℕ → State) → Option Half → Turn → Type 0
LeavesAsStruck state o (Moves move) = IsAsStruck o move.hand
LeavesAsStruck state o (Looks next move) = IsAsStruck o move.hand
LeavesAsStruck state o (Copies_unit i) = is_copied (state i) ≡ true
LeavesAsStruck state o Stops = Unit {0}

nothing_struck : (o : Option Half) (h : Half) → None ≡ Some h → o ≡ Some h
nothing_struck o h e = absurd (let c : ⊥ = cc in c)

module _ (d : MachineDesc) where
  after_releases_struck : (r : Running) (why : Cause) → IsAsStruck r.pair.struck (after_releases r why)
  after_releases_struck r (cause.Release segment) = λ h e. e
  after_releases_struck r cause.Exit = nothing_struck r.pair.struck
  after_releases_struck r cause.Trap = nothing_struck r.pair.struck
  after_releases_struck r cause.Commit = λ h e. e
  after_releases_struck r cause.Yield = nothing_struck r.pair.struck
  after_releases_struck r (cause.Wait reason) = nothing_struck r.pair.struck
  after_releases_struck r cause.Room = λ h e. e
  after_releases_struck r cause.Quantum = nothing_struck r.pair.struck

  release_struck : (r : Running) (why : Cause) (mask : ℕ) (next : Option ℕ) → IsAsStruck r.pair.struck (release_next d r why mask next)
  release_struck r why mask (Some t) = λ h e. e
  release_struck r why mask None = after_releases_struck r why

  follows_struck : (r : Running) (why : Cause) (mask : ℕ) → IsAsStruck r.pair.struck (follows d r why mask)
  follows_struck r why mask = release_struck r why mask (lowest (has_bit mask) 16)

  module _ (m : Machine) (p : ℕ) where
    abbrev Leaves : Option Half → Turn → Type 0
    Leaves o t = LeavesAsStruck m.copies.state o t

    finds_struck : (r : Running) (cache : Changes) (why : Cause) (mask : ℕ) → Leaves r.pair.struck (finds d m p r cache why mask)
    finds_struck r cache why mask = cond_both (r.steps == 0) _ _ (Leaves r.pair.struck) (λ _. follows_struck r why mask) (λ _. cond_both (agree r.pair) _ _ (Leaves r.pair.struck) (λ _. λ h e. e) (λ _. tt))

    -- ---- steps
    step_struck : (r : Running) (t : Turned) (o : Outcome) → t.running.pair.struck ≡ r.pair.struck → Leaves r.pair.struck (after_step d m p r t o)
    step_struck r t outcome.Done same = λ h e. sym same ∙ e
    step_struck r t (outcome.Claim s) same = cond_both (is_taken (shape_of d) m.copies (lock_word d s.0) false) _ _ (Leaves r.pair.struck)
        (λ _. finds_struck r (m.cache p) (cause.Wait (Lock s (record { 0 = word_at m.copies (lock_word d s.0) false - 1 }))) 0) (λ _. λ h e. e)
    step_struck r t (outcome.NeedsFlush why) same = subst (λ (x : Option Half). Leaves x (finds d m p t.running t.cache why (released r.held why))) same (finds_struck t.running t.cache why (released r.held why))
    step_struck r t (outcome.Waits reason) same = finds_struck r (m.cache p) (cause.Wait reason) 0
    step_struck r t outcome.Diverged same = tt

    runs_struck : (r : Running) → Leaves r.pair.struck (runs d m p r)
    runs_struck r = cond_both (nat_le d.quantum r.used) _ _ (Leaves r.pair.struck) (λ _. finds_struck r (m.cache p) cause.Quantum 0)
        (λ _. let t = step_of d m.copies r (m.cache p) in step_struck r t t.outcome (turns_keep_halves d m.copies r (m.cache p)).0.struck)

    -- ---- operations
    taken_struck : (o : Option Half) (q : ℕ) (end : End) → IsAsStruck o (taken_up d m q end)
    taken_struck o q Live = nothing_struck o
    taken_struck o q (Exited code) = nothing_struck o
    taken_struck o q (Trapped why pc) = nothing_struck o

    claims_struck : (o : Option Half) (q : ℕ) (c : Claim Shadow) → IsAsStruck o (claims d m p q c).hand
    claims_struck o q c = cond_both (is_taken (shape_of d) m.copies c.at true) _ _ (λ (x : Move). IsAsStruck o x.hand) (λ _. nothing_struck o) (λ _. taken_struck o q (end_of (context_of d m.copies q)))

    acquires_struck : (r : Running) (t : Seg) (c : Claim Shadow) → Leaves r.pair.struck (acquires d m p r t c)
    acquires_struck r t c = cond_both (is_taken (shape_of d) m.copies c.at true) _ _ (Leaves r.pair.struck)
        (λ _. finds_struck r (m.cache p) (cause.Wait (Lock t (record { 0 = word_at m.copies c.at true - 1 }))) 0)
        (λ _. λ h e. sym ((turns_keep_halves d m.copies r (m.cache p)).1 t.0).struck ∙ e)

    flush_struck : (r : Running) (why : Cause) (mask : ℕ) (f : FlushAt) → IsAsStruck r.pair.struck (flush_move d m p r why mask f).hand
    flush_struck r why mask (flush.Mark f) = cond_both (f.cursor == 0) _ _ (λ (x : Move). IsAsStruck r.pair.struck x.hand) (λ _. λ h e. e) (λ _. λ h e. e)
    flush_struck r why mask (flush.First f) = cond_both (nat_le (unit_count m p f) f.cursor) _ _ (λ (x : Move). IsAsStruck r.pair.struck x.hand) (λ _. λ h e. e) (λ _. λ h e. e)
    flush_struck r why mask (flush.Second f) = cond_both (f.cursor == 0) _ _ (λ (x : Move). IsAsStruck r.pair.struck x.hand) (λ _. λ h e. e) (λ _. λ h e. e)
    flush_struck r why mask (flush.Close f) = cond_both (f.cursor == 0) _ _ (λ (x : Move). IsAsStruck r.pair.struck x.hand) (λ _. λ h e. e) (λ _. follows_struck r why mask)

    unlock_struck : (r : Running) (why : Cause) (mask : ℕ) (l : ReleaseAt) → IsAsStruck r.pair.struck (unlock_move d m p r why mask l).hand
    unlock_struck r why mask (release.Shadow l) = λ h e. e
    unlock_struck r why mask (release.Primary l) = follows_struck r why (less d mask l.at)

    leave_struck : (o : Option Half) (q : ℕ) (l : ReleaseAt) → IsAsStruck o (leave_move d m p q l).hand
    leave_struck o q (release.Shadow l) = nothing_struck o
    leave_struck o q (release.Primary l) = nothing_struck o

    -- ---- recoveries
    claimed_struck : (o : Option Half) (r : Recovery Claimed) → IsAsStruck o (claimed_move d m p r).hand
    claimed_struck o r = cond_both (r.cursor == 0) _ _ (λ (x : Move). IsAsStruck o x.hand) (λ _. nothing_struck o) (λ _. nothing_struck o)

    cleared_struck : (o : Option Half) (r : Recovery Locks) (left : Option ℕ) → IsAsStruck o (locks_cleared d m p r left).hand
    cleared_struck o r (Some k) = nothing_struck o
    cleared_struck o r None = nothing_struck o

    recovery_struck : (o : Option Half) (r : RecoveryAt) → IsAsStruck o (recovery_move d m p r).hand
    recovery_struck o (recovery.Claimed r) = claimed_struck o r
    recovery_struck o (recovery.Copying r) = nothing_struck o
    recovery_struck o (recovery.Locks r) = cleared_struck o r (left_from d m.copies r.pid.0 r.cursor)
    recovery_struck o (recovery.Closing r) = cond_both (r.cursor == 0) _ _ (λ (x : Move). IsAsStruck o x.hand) (λ _. nothing_struck o) (λ _. nothing_struck o)

    -- ---- a processor that copies a unit, waits, or seeks
    to_copy : (i : ℕ) → copied_memory d m.copies ≡ Some i → is_copied (m.copies.state i) ≡ true
    to_copy i e = (is_lowest (λ i. is_copied (m.copies.state i)) (shape_of d).memories i e).passes

    waits_struck : (i : ℕ) (amid : Option ℕ) → is_copied (m.copies.state i) ≡ true → Leaves (struck_in (m.hand p)) (copies_or_waits m p i amid)
    waits_struck i (Some r) copied = λ h e. e
    waits_struck i None copied = copied

    looks_struck : (o : Option Half) (q : ℕ) → o ≡ struck_in (m.hand p) → IsAsStruck o (looks d m p q).hand
    looks_struck o q is = cond_both (is_free d m q) _ _ (λ (x : Move). IsAsStruck o x.hand) (λ _. nothing_struck o) (λ _. λ h e. is ∙ e)

    seeks_struck : (found : Option ℕ) → Leaves (struck_in (m.hand p)) (seeks d m p found)
    seeks_struck (Some q) = claimed_struck (struck_in (m.hand p)) (begins m p q (goes_forward (ruling d m.copies q)))
    seeks_struck None = looks_struck (struck_in (m.hand p)) (m.scan p) refl

    seeks_or_copies_struck : (i : Option ℕ) → copied_memory d m.copies ≡ i → Leaves (struck_in (m.hand p)) (seeks_or_copies d m p i)
    seeks_or_copies_struck (Some i) found = waits_struck i (someone_amid d m) (to_copy i found)
    seeks_or_copies_struck None found = seeks_struck (deserted d m)

    runs_or_copies_struck : (r : Running) (i : Option ℕ) → copied_memory d m.copies ≡ i → struck_in (m.hand p) ≡ r.pair.struck → Leaves (struck_in (m.hand p)) (runs_or_copies d m p r i)
    runs_or_copies_struck r (Some i) found is = waits_struck i (someone_amid d m) (to_copy i found)
    runs_or_copies_struck r None found is = subst (λ (x : Option Half). Leaves x (runs d m p r)) (sym is) (runs_struck r)

    turn_as : (x : Hand) → m.hand p ≡ x → Leaves (struck_in (m.hand p)) (turn d m p x)
    turn_as hand.Down is = λ h e. e
    turn_as hand.Seek is = seeks_or_copies_struck (copied_memory d m.copies) refl
    turn_as (hand.Claiming q c) is = claims_struck (struck_in (m.hand p)) q.0 c
    turn_as (hand.Running r) is = runs_or_copies_struck r (copied_memory d m.copies) refl (ap struck_in is)
    turn_as (hand.Acquiring r t c) is = subst (λ (x : Option Half). Leaves x (acquires d m p r t c)) (sym (ap struck_in is)) (acquires_struck r t c)
    turn_as (hand.Flushing r why mask f) is = subst (λ (x : Option Half). IsAsStruck x (flush_move d m p r why mask f).hand) (sym (ap struck_in is)) (flush_struck r why mask f)
    turn_as (hand.Unlocking r why mask l) is = subst (λ (x : Option Half). IsAsStruck x (unlock_move d m p r why mask l).hand) (sym (ap struck_in is)) (unlock_struck r why mask l)
    turn_as (hand.Leaving q l) is = leave_struck (struck_in (m.hand p)) q.0 l
    turn_as (hand.Recovering r) is = recovery_struck (struck_in (m.hand p)) r

    pub turn_strikes_nothing : LeavesAsStruck m.copies.state (struck_in (m.hand p)) (turn d m p (m.hand p))
    turn_strikes_nothing = turn_as (m.hand p) refl
