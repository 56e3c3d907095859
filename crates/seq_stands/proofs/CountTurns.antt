-- Every turn of a processor, by its hand: how far it is ahead then, and what it commits.
use Rattle.std.proofs.Common.{◌≡◌, ℕ, suc, ◌+◌, ◌-◌, ◌≤◌, true, false, ◌==◌, nat_le, Option, Some, None, refl, ap, arith}
use Rattle.std.proofs.lemmas.Bool.{cond_both, eqb-false}
use Rattle.seq_words.specs.Masks.{has_bit}
use Rattle.seq_words.specs.declared.names.Seg.{Seg}
use Rattle.seq_words.specs.declared.description.MachineDesc.{MachineDesc}
use Rattle.seq_words.specs.declared.events.Entry.{Entry}
use Rattle.seq_flat.specs.declared.state.End.{End}
use Rattle.seq_flat.specs.declared.state.End.TheVariants.{Live, Exited, Trapped}
use Rattle.seq_layout.specs.Shapes.{shape_of}
use Rattle.seq_process.specs.declared.running.Running.{Running}
use Rattle.seq_process.specs.Contexts.{end_of}
use Rattle.seq_cache.specs.Changes.{Changes}
use Rattle.seq_locks.specs.Turns.{is_taken, word_at}
use Rattle.seq_flush.specs.Turns.{into_stage}
use Rattle.seq_flush.proofs.Numbered.{units_done}
use Rattle.seq_kernel.specs.Steps.{step_of}
use Rattle.seq_kernel.specs.declared.outcomes.Cause.{Cause}
use Rattle.seq_kernel.specs.declared.outcomes.Cause.TheVariants as cause
use Rattle.seq_kernel.specs.declared.outcomes.Outcome.{Outcome}
use Rattle.seq_kernel.specs.declared.outcomes.Outcome.TheVariants as outcome
use Rattle.seq_kernel.specs.declared.outcomes.Reason.TheVariants.{Lock}
use Rattle.seq_kernel.specs.declared.outcomes.Note.TheVariants.{Found}
use Rattle.seq_turns.specs.declared.hand.Hand.{Hand}
use Rattle.seq_turns.specs.declared.hand.Hand.TheVariants as hand
use Rattle.seq_turns.specs.declared.hand.FlushAt.{FlushAt}
use Rattle.seq_turns.specs.declared.hand.FlushAt.TheVariants as flush
use Rattle.seq_turns.specs.declared.hand.ReleaseAt.TheVariants as release
use Rattle.seq_turns.specs.declared.hand.RecoveryAt.{RecoveryAt}
use Rattle.seq_turns.specs.declared.hand.RecoveryAt.TheVariants as recovery
use Rattle.seq_turns.specs.Functions.{lowest}
use Rattle.seq_turns.specs.Machines.{Machine, Move, Turn, idles}
use Rattle.seq_turns.specs.Machines.Turn.{Moves, Looks, Copies_unit, Stops}
use Rattle.seq_turns.specs.Reading.{lock_word, copied_memory, context_of}
use Rattle.seq_turns.specs.Causes.{agree, released, flushes, finds, follows, release_next, after_releases}
use Rattle.seq_turns.specs.Operations.{taken_up, flush_move, less, unit_count}
use Rattle.seq_recover.specs.Reading.{left_from}
use Rattle.seq_turns.specs.Recoveries.{locks_cleared, recovery_move}
use Rattle.seq_turns.specs.Processors.{is_free, deserted, seeks, acquisition, after_step, runs, someone_amid, copies_or_waits, seeks_or_copies, runs_or_copies, turn}
use Rattle.seq_stands.specs.CountAhead.{flush_ahead, ahead}
use Rattle.seq_stands.specs.Counts.{CommitsLate}

-- a commit of a processor that was ahead so far, with the hand that it leaves
abbrev pub Late : ℕ → Hand → Option Entry → Type 0
Late before h None = Unit {0}
Late before h (Some entry) = CommitsLate before (ahead h)

pub record Counts (before : ℕ) (move : Move) : Type 0 where
  pub by_one : ahead move.hand ≤ suc before
  pub commits : Late before move.hand move.commit

abbrev pub TurnCounts : ℕ → Turn → Type 0
TurnCounts before (Moves move) = Counts before move
TurnCounts before (Looks next move) = Counts before move
TurnCounts before (Copies_unit i) = Unit {0}
TurnCounts before Stops = Unit {0}

module _ (d : MachineDesc) (m : Machine) (p : ℕ) where
  follows_anew : (r : Running) (c : Cause) (mask : ℕ) → ahead (follows d r c mask) ≤ 1
  follows_anew r c mask = next (lowest (has_bit mask) 16)
    where
      after : (c : Cause) → ahead (after_releases r c) ≤ 1
      after (cause.Release t) = omega arith
      after cause.Exit = omega arith
      after cause.Trap = omega arith
      after cause.Commit = omega arith
      after cause.Yield = omega arith
      after (cause.Wait reason) = omega arith
      after cause.Room = omega arith
      after cause.Quantum = omega arith

      next : (o : Option ℕ) → ahead (release_next d r c mask o) ≤ 1
      next (Some t) = omega arith
      next None = after c

  found : (r : Running) (cache : Changes) (c : Cause) (mask : ℕ) → TurnCounts 0 (finds d m p r cache c mask)
  found r cache c mask =
      cond_both (r.steps == 0) _ _ (TurnCounts 0) (λ _. record { by_one = follows_anew r c mask; commits = tt })
      (λ _. cond_both (agree r.pair) (Moves (record (idles m p) { hand = flushes m p r c mask; cache = cache; note = Found r.pid c })) Stops (TurnCounts 0) (λ _. record { by_one = omega arith; commits = tt }) (λ _. tt))

  acquired : (r : Running) (t : Seg) → TurnCounts 0 (acquisition d m p r t)
  acquired r t = cond_both (is_taken (shape_of d) m.copies (lock_word d t.0) false) _ _ (TurnCounts 0)
      (λ _. found r (m.cache p) (cause.Wait (Lock t (record { 0 = word_at m.copies (lock_word d t.0) false - 1 }))) 0) (λ _. record { by_one = omega arith; commits = tt })

  ran : (r : Running) → TurnCounts 0 (runs d m p r)
  ran r = cond_both (nat_le d.quantum r.used) _ _ (TurnCounts 0) (λ _. found r (m.cache p) cause.Quantum 0) (λ _. go (step_of d m.copies r (m.cache p)).outcome)
    where
      go : (o : Outcome) → TurnCounts 0 (after_step d m p r (step_of d m.copies r (m.cache p)) o)
      go outcome.Done = record { by_one = omega arith; commits = tt }
      go (outcome.Claim s) = acquired r s
      go (outcome.NeedsFlush c) = found (step_of d m.copies r (m.cache p)).running (step_of d m.copies r (m.cache p)).cache c (released r.held c)
      go (outcome.Waits reason) = found r (m.cache p) (cause.Wait reason) 0
      go outcome.Diverged = tt

  -- the hand stays
  idle : (h : Hand) → m.hand p ≡ h → ahead (m.hand p) ≤ suc (ahead h)
  idle h e = let same = ap ahead e in omega (arith, same)

  copied : (h : Hand) → m.hand p ≡ h → (i : ℕ) (o : Option ℕ) → TurnCounts (ahead h) (copies_or_waits m p i o)
  copied h e i (Some r) = record { by_one = idle h e; commits = tt }
  copied h e i None = tt

  sought : m.hand p ≡ hand.Seek → (o : Option ℕ) → TurnCounts 0 (seeks d m p o)
  sought e (Some q) = record { by_one = omega arith; commits = tt }
  sought e None = cond_both (is_free d m (m.scan p)) _ _ (Counts 0) (λ _. record { by_one = omega arith; commits = tt }) (λ _. record { by_one = idle hand.Seek e; commits = tt })

  flushed : (r : Running) (c : Cause) (mask : ℕ) (f : FlushAt) → Counts (flush_ahead f) (flush_move d m p r c mask f)
  flushed r c mask (flush.Mark f) = cond_both (f.cursor == 0) _ _ (Counts f.cursor)
      (λ _. record { by_one = omega arith; commits = tt }) (λ e. let some = eqb-false f.cursor 0 e in record { by_one = omega (arith, some); commits = tt })
  flushed r c mask (flush.First f) = cond_both (nat_le (unit_count m p f) f.cursor) _ _ (Counts (f.cursor + 2))
      (λ e. let done = units_done f.pid.0 f.context (m.cache p).changes f.cursor e in record { by_one = omega arith; commits = record { late = omega (arith, done); anew = refl } })
      (λ _. record { by_one = omega arith; commits = tt })
  flushed r c mask (flush.Second f) = cond_both (f.cursor == 0) _ _ (Counts 0)
      (λ _. record { by_one = omega arith; commits = tt })
      (λ _. record {
        by_one = cond_both (nat_le (unit_count m p f) f.cursor) (flush.Close (into_stage f (record {}))) (flush.Second (record f { cursor = f.cursor + 1 })) (λ x. flush_ahead x ≤ 1) (λ _. omega arith) (λ _. omega arith);
        commits = tt;
      })
  flushed r c mask (flush.Close f) = cond_both (f.cursor == 0) _ _ (Counts 0)
      (λ _. record { by_one = omega arith; commits = tt }) (λ _. record { by_one = follows_anew r c mask; commits = tt })

  recovered : (r : RecoveryAt) → Counts 0 (recovery_move d m p r)
  recovered (recovery.Claimed r) = cond_both (r.cursor == 0) _ _ (Counts 0) (λ _. record { by_one = omega arith; commits = tt }) (λ _. record { by_one = omega arith; commits = tt })
  recovered (recovery.Copying r) = record { by_one = omega arith; commits = tt }
  recovered (recovery.Locks r) = go (left_from d m.copies r.pid.0 r.cursor)
    where
      go : (o : Option ℕ) → Counts 0 (locks_cleared d m p r o)
      go (Some k) = record { by_one = omega arith; commits = tt }
      go None = record { by_one = omega arith; commits = tt }
  recovered (recovery.Closing r) = cond_both (r.cursor == 0) _ _ (Counts 0) (λ _. record { by_one = omega arith; commits = tt }) (λ _. record { by_one = omega arith; commits = tt })

  pub turn_counts : (h : Hand) → m.hand p ≡ h → TurnCounts (ahead h) (turn d m p h)
  turn_counts hand.Down e = record { by_one = idle hand.Down e; commits = tt }
  turn_counts hand.Seek e = go (copied_memory d m.copies)
    where
      go : (o : Option ℕ) → TurnCounts 0 (seeks_or_copies d m p o)
      go (Some i) = copied hand.Seek e i (someone_amid d m)
      go None = sought e (deserted d m)
  turn_counts (hand.Claiming q c) e = cond_both (is_taken (shape_of d) m.copies c.at true) _ _ (Counts 0)
      (λ _. record { by_one = omega arith; commits = tt }) (λ _. record { by_one = up (end_of (context_of d m.copies q.0)); commits = tt })
    where
      up : (x : End) → ahead (taken_up d m q.0 x) ≤ 1
      up Live = omega arith
      up (Exited code) = omega arith
      up (Trapped code pc) = omega arith
  turn_counts (hand.Running r) e = go (copied_memory d m.copies)
    where
      go : (o : Option ℕ) → TurnCounts 0 (runs_or_copies d m p r o)
      go (Some i) = copied (hand.Running r) e i (someone_amid d m)
      go None = ran r
  turn_counts (hand.Acquiring r t c) e = cond_both (is_taken (shape_of d) m.copies c.at true) _ _ (TurnCounts 0)
      (λ _. found r (m.cache p) (cause.Wait (Lock t (record { 0 = word_at m.copies c.at true - 1 }))) 0) (λ _. record { by_one = omega arith; commits = tt })
  turn_counts (hand.Flushing r c mask f) e = flushed r c mask f
  turn_counts (hand.Unlocking r c mask (release.Shadow l)) e = record { by_one = omega arith; commits = tt }
  turn_counts (hand.Unlocking r c mask (release.Primary l)) e = record { by_one = follows_anew r c (less d mask l.at); commits = tt }
  turn_counts (hand.Leaving q (release.Shadow l)) e = record { by_one = omega arith; commits = tt }
  turn_counts (hand.Leaving q (release.Primary l)) e = record { by_one = omega arith; commits = tt }
  turn_counts (hand.Recovering r) e = recovered r
