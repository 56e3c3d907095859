-- Every event keeps hands inside the description, and the turns of such hands change nothing of lines.
use Rattle.std.proofs.Common.{◌≡◌, ℕ, ◌-◌, ◌^◌, true, false, ◌==◌, nat_le, Option, Some, None, sym, subst, arith}
use Rattle.std.proofs.lemmas.Bool.{cond_both}
use Rattle.seq_words.specs.Masks.{has_bit}
use Rattle.seq_words.specs.declared.description.MachineDesc.{MachineDesc}
use Rattle.seq_words.specs.declared.half.Half.{Half}
use Rattle.seq_flat.specs.declared.state.End.{End}
use Rattle.seq_flat.specs.declared.state.End.TheVariants.{Live, Exited, Trapped}
use Rattle.seq_layout.specs.Shapes.{shape_of, segment_extent}
use Rattle.seq_layout.specs.declared.units.WordAt.{WordAt}
use Rattle.seq_process.specs.declared.running.Running.{Running}
use Rattle.seq_process.specs.Contexts.{end_of}
use Rattle.seq_cache.specs.Changes.{Changes}
use Rattle.seq_kernel.specs.declared.outcomes.Outcome.{Outcome}
use Rattle.seq_kernel.specs.declared.outcomes.Outcome.TheVariants as outcome
use Rattle.seq_kernel.specs.declared.outcomes.Cause.{Cause}
use Rattle.seq_kernel.specs.declared.outcomes.Cause.TheVariants as cause
use Rattle.seq_kernel.specs.declared.outcomes.Reason.TheVariants as reason
use Rattle.seq_kernel.specs.Turns.{Turned}
use Rattle.seq_kernel.specs.Bounds.{IsWithin}
use Rattle.seq_kernel.specs.Steps.{step_of}
use Rattle.seq_locks.specs.Turns.{is_taken, word_at}
use Rattle.seq_turns.specs.declared.hand.Hand.{Hand}
use Rattle.seq_turns.specs.declared.hand.Hand.TheVariants as hand
use Rattle.seq_turns.specs.declared.hand.FlushAt.{FlushAt}
use Rattle.seq_turns.specs.declared.hand.FlushAt.TheVariants as flush
use Rattle.seq_turns.specs.declared.hand.ReleaseAt.{ReleaseAt}
use Rattle.seq_turns.specs.declared.hand.ReleaseAt.TheVariants as release
use Rattle.seq_turns.specs.declared.hand.RecoveryAt.{RecoveryAt}
use Rattle.seq_turns.specs.declared.hand.RecoveryAt.TheVariants as recovery
use Rattle.seq_turns.specs.Functions.{lowest}
use Rattle.seq_turns.specs.Machines.{Machine, Move, Turn}
use Rattle.seq_turns.specs.Machines.Turn.{Moves, Looks, Copies_unit, Stops}
use Rattle.seq_turns.specs.Reading.{lock_word, context_of, copied_memory}
use Rattle.seq_turns.specs.Causes.{after_releases, release_next, follows, agree, finds, released}
use Rattle.seq_turns.specs.Operations.{taken_up, less, unit_count, flush_move, unlock_move, leave_move}
use Rattle.seq_recover.specs.Reading.{left_from}
use Rattle.seq_turns.specs.Recoveries.{recovery_move, locks_cleared}
use Rattle.seq_turns.specs.Processors.{turn, after_step, seeks, is_free, deserted, runs, someone_amid, copies_or_waits, seeks_or_copies, runs_or_copies}
use Rattle.seq_turns.specs.Events.{comes_back, strikes}
use Rattle.seq_lines.specs.Known.{HandIsWithin}
use Rattle.seq_lines.specs.Inside.{IsMask, HandIsInside}
use Rattle.seq_lines.proofs.Asks.{AsksInside, step_asks, zero_mask, released_mask, less_mask}

abbrev pub MoveIsInside : MachineDesc → Move → Type 0
MoveIsInside d move = HandIsInside d move.hand

abbrev pub TurnIsInside : MachineDesc → Turn → Type 0
TurnIsInside d (Moves move) = HandIsInside d move.hand
TurnIsInside d (Looks next move) = HandIsInside d move.hand
TurnIsInside d (Copies_unit i) = Unit {0}
TurnIsInside d Stops = Unit {0}

module _ (d : MachineDesc) (m : Machine) (p : ℕ) where
  releases_inside : (r : Running) (c : Cause) → HandIsInside d (after_releases r c)
  releases_inside r (cause.Release segment) = tt
  releases_inside r cause.Exit = tt
  releases_inside r cause.Trap = tt
  releases_inside r cause.Commit = tt
  releases_inside r cause.Yield = tt
  releases_inside r (cause.Wait why) = tt
  releases_inside r cause.Room = tt
  releases_inside r cause.Quantum = tt

  next_inside : (r : Running) (c : Cause) (mask : ℕ) (o : Option ℕ) → IsMask d mask → HandIsInside d (release_next d r c mask o)
  next_inside r c mask (Some t) inside = inside
  next_inside r c mask None inside = releases_inside r c

  follows_inside : (r : Running) (c : Cause) (mask : ℕ) → IsMask d mask → HandIsInside d (follows d r c mask)
  follows_inside r c mask inside = next_inside r c mask (lowest (has_bit mask) 16) inside

  finds_inside : (r : Running) (cache : Changes) (c : Cause) (mask : ℕ) → IsMask d mask → TurnIsInside d (finds d m p r cache c mask)
  finds_inside r cache c mask inside = cond_both (r.steps == 0) _ _ (TurnIsInside d) (λ _. follows_inside r c mask inside) (λ _. cond_both (agree r.pair) _ _ (TurnIsInside d) (λ _. inside) (λ _. tt))

  after_inside : (r : Running) (t : Turned) (o : Outcome) → IsMask d r.held → AsksInside d o → TurnIsInside d (after_step d m p r t o)
  after_inside r t outcome.Done held asks = tt
  after_inside r t (outcome.Claim s) held asks = cond_both (is_taken (shape_of d) m.copies (lock_word d s.0) false) _ _ (TurnIsInside d) (λ _. finds_inside r (m.cache p) (cause.Wait (reason.Lock s (record { 0 = word_at m.copies (lock_word d s.0) false - 1 }))) 0 (zero_mask d)) (λ _. asks)
  after_inside r t (outcome.NeedsFlush c) held asks = finds_inside t.running t.cache c (released r.held c) (released_mask d r.held c held asks)
  after_inside r t (outcome.Waits why) held asks = finds_inside r (m.cache p) (cause.Wait why) 0 (zero_mask d)
  after_inside r t outcome.Diverged held asks = tt

  runs_inside : (r : Running) → IsWithin d r → TurnIsInside d (runs d m p r)
  runs_inside r within = cond_both (nat_le d.quantum r.used) _ _ (TurnIsInside d) (λ _. finds_inside r (m.cache p) cause.Quantum 0 (zero_mask d)) (λ _. after_inside r (step_of d m.copies r (m.cache p)) (step_of d m.copies r (m.cache p)).outcome within.held (step_asks d m.copies r (m.cache p)))

  copies_inside : (i : ℕ) (o : Option ℕ) → HandIsInside d (m.hand p) → TurnIsInside d (copies_or_waits m p i o)
  copies_inside i (Some r) here = here
  copies_inside i None here = tt

  seeks_inside : (o : Option ℕ) → HandIsInside d (m.hand p) → TurnIsInside d (seeks d m p o)
  seeks_inside (Some q) here = tt
  seeks_inside None here = cond_both (is_free d m (m.scan p)) _ _ (MoveIsInside d) (λ _. tt) (λ _. here)

  seek_inside : (o : Option ℕ) → HandIsInside d (m.hand p) → TurnIsInside d (seeks_or_copies d m p o)
  seek_inside (Some i) here = copies_inside i (someone_amid d m) here
  seek_inside None here = seeks_inside (deserted d m) here

  run_inside : (r : Running) (o : Option ℕ) → IsWithin d r → HandIsInside d (m.hand p) → TurnIsInside d (runs_or_copies d m p r o)
  run_inside r (Some i) within here = copies_inside i (someone_amid d m) here
  run_inside r None within here = runs_inside r within

  taken_inside : (q : ℕ) (end : End) → HandIsInside d (taken_up d m q end)
  taken_inside q Live = tt
  taken_inside q (Exited code) = tt
  taken_inside q (Trapped code pc) = tt

  flush_inside : (r : Running) (c : Cause) (mask : ℕ) (at : FlushAt) → IsMask d mask → MoveIsInside d (flush_move d m p r c mask at)
  flush_inside r c mask (flush.Mark x) inside = cond_both (x.cursor == 0) _ _ (MoveIsInside d) (λ _. inside) (λ _. inside)
  flush_inside r c mask (flush.First x) inside = cond_both (nat_le (unit_count m p x) x.cursor) _ _ (MoveIsInside d) (λ _. inside) (λ _. inside)
  flush_inside r c mask (flush.Second x) inside = cond_both (x.cursor == 0) _ _ (MoveIsInside d) (λ _. inside) (λ _. inside)
  flush_inside r c mask (flush.Close x) inside = cond_both (x.cursor == 0) _ _ (MoveIsInside d) (λ _. inside) (λ _. follows_inside r c mask inside)

  recovery_inside : (at : RecoveryAt) → MoveIsInside d (recovery_move d m p at)
  recovery_inside (recovery.Claimed r) = cond_both (r.cursor == 0) _ _ (MoveIsInside d) (λ _. tt) (λ _. tt)
  recovery_inside (recovery.Copying r) = tt
  recovery_inside (recovery.Locks r) = go (left_from d m.copies r.pid.0 r.cursor)
    where
      go : (o : Option ℕ) → MoveIsInside d (locks_cleared d m p r o)
      go (Some k) = tt
      go None = tt
  recovery_inside (recovery.Closing r) = cond_both (r.cursor == 0) _ _ (MoveIsInside d) (λ _. tt) (λ _. tt)

  leave_inside : (q : ℕ) (at : ReleaseAt) → MoveIsInside d (leave_move d m p q at)
  leave_inside q (release.Shadow l) = tt
  leave_inside q (release.Primary l) = tt

  -- the segment of the lock that is released is one of the mask
  abbrev pub Releases : Hand → Type 0
  Releases (hand.Unlocking r c mask (release.Primary l)) = (s : ℕ) × (l.at ≡ lock_word d s) × (has_bit mask s ≡ true)
  Releases _ = Unit {0}

  unlock_inside : (r : Running) (c : Cause) (mask : ℕ) (at : ReleaseAt) → IsMask d mask → Releases (hand.Unlocking r c mask at) → MoveIsInside d (unlock_move d m p r c mask at)
  unlock_inside r c mask (release.Shadow l) inside is = inside
  unlock_inside r c mask (release.Primary l) inside is = follows_inside r c (less d mask l.at) (subst (λ (at : WordAt). IsMask d (less d mask at)) (sym is.1) (subst (λ n. IsMask d (mask - 2 ^ n)) (number is.0) (less_mask d mask is.0 is.2 inside)))
    where
      number : (s : ℕ) → s ≡ segment_extent (shape_of d) s - segment_extent (shape_of d) 0
      number s = omega arith

  pub turn_inside : (h : Hand) → HandIsInside d (m.hand p) → HandIsInside d h → HandIsWithin d h → Releases h → TurnIsInside d (turn d m p h)
  turn_inside hand.Down here inside within is = here
  turn_inside hand.Seek here inside within is = seek_inside (copied_memory d m.copies) here
  turn_inside (hand.Claiming q c) here inside within is = cond_both (is_taken (shape_of d) m.copies c.at true) _ _ (MoveIsInside d) (λ _. tt) (λ _. taken_inside q.0 (end_of (context_of d m.copies q.0)))
  turn_inside (hand.Running r) here inside within is = run_inside r (copied_memory d m.copies) within here
  turn_inside (hand.Acquiring r t c) here inside within is = cond_both (is_taken (shape_of d) m.copies c.at true) _ _ (TurnIsInside d) (λ _. finds_inside r (m.cache p) (cause.Wait (reason.Lock t (record { 0 = word_at m.copies c.at true - 1 }))) 0 (zero_mask d)) (λ _. tt)
  turn_inside (hand.Flushing r c mask x) here inside within is = flush_inside r c mask x inside
  turn_inside (hand.Unlocking r c mask l) here inside within is = unlock_inside r c mask l inside is
  turn_inside (hand.Leaving q l) here inside within is = leave_inside q.0 l
  turn_inside (hand.Recovering r) here inside within is = recovery_inside r

pub back_inside : (d : MachineDesc) (h : Hand) → HandIsInside d h → HandIsInside d (comes_back h)
back_inside d hand.Down inside = tt
back_inside d hand.Seek inside = tt
back_inside d (hand.Claiming q c) inside = tt
back_inside d (hand.Running r) inside = tt
back_inside d (hand.Acquiring r t c) inside = inside
back_inside d (hand.Flushing r c mask x) inside = inside
back_inside d (hand.Unlocking r c mask l) inside = inside
back_inside d (hand.Leaving q l) inside = tt
back_inside d (hand.Recovering r) inside = tt

pub struck_inside : (d : MachineDesc) (half : Half) (reg mask : ℕ) (h : Hand) → HandIsInside d h → HandIsInside d (strikes half reg mask h)
struck_inside d half reg mask hand.Down inside = tt
struck_inside d half reg mask hand.Seek inside = tt
struck_inside d half reg mask (hand.Claiming q c) inside = tt
struck_inside d half reg mask (hand.Running r) inside = tt
struck_inside d half reg mask (hand.Acquiring r t c) inside = inside
struck_inside d half reg mask (hand.Flushing r c held x) inside = inside
struck_inside d half reg mask (hand.Unlocking r c held l) inside = inside
struck_inside d half reg mask (hand.Leaving q l) inside = tt
struck_inside d half reg mask (hand.Recovering r) inside = tt
