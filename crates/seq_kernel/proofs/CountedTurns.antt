-- Every turn is counted.
use Rattle.std.proofs.Common.{◌≡◌, ℕ, ◌+◌, ◌-◌, ◌/◌, ◌^◌, ◌≤◌, true, false, not, ◌&&◌, ◌==◌, nat_lt, List, Option, Some, None, length, inl, inr, arith, ◌≢◌, refl, sym, ◌∙◌, ap, subst, get_or-set_other}
use Rattle.std.specs.Prelude.{slice_index, slice_set, count_ones}
use Rattle.std.proofs.lemmas.Bool.{cond_both, and_parts, not-false, false≢true, cases_eq}
use Rattle.std.proofs.lemmas.Nat.Bits.{bit_at-zero}
use Rattle.seq_words.specs.Masks.{has_bit}
use Rattle.seq_words.specs.declared.description.MachineDesc.{MachineDesc}
use Rattle.seq_words.specs.declared.names.Pid.{Pid}
use Rattle.seq_words.specs.Description.{process_of}
use Rattle.seq_isa.specs.Meaning.{register}
use Rattle.seq_flat.specs.declared.state.End.{End}
use Rattle.seq_flat.specs.declared.state.End.TheVariants.{Live, Exited, Trapped}
use Rattle.seq_flat.specs.Memory.{bytes_from}
use Rattle.seq_flat.specs.Calls.{minus}
use Rattle.seq_rv32.specs.declared.effects.Effect.{Effect}
use Rattle.seq_rv32.specs.declared.effects.Effect.TheVariants as effect
use Rattle.seq_pair.specs.declared.halves.Turn.{Turn}
use Rattle.seq_pair.specs.declared.halves.Turn.TheVariants as turn
use Rattle.seq_layout.specs.Copies.{Copies}
use Rattle.seq_process.specs.declared.running.Running.{Running}
use Rattle.seq_cache.specs.Changes.{Changes}
use Rattle.seq_kernel.specs.declared.outcomes.Outcome.{Outcome}
use Rattle.seq_kernel.specs.declared.outcomes.Outcome.TheVariants.{Done, Claim, NeedsFlush, Waits, Diverged}
use Rattle.seq_kernel.specs.declared.outcomes.Cause.TheVariants as cause
use Rattle.seq_kernel.specs.declared.outcomes.Reason.TheVariants as reason
use Rattle.seq_kernel.specs.Views.{read_by, seen}
use Rattle.seq_kernel.specs.Outboxes.{needed}
use Rattle.seq_kernel.specs.Turns.{Turned, stays, answered, ended}
use Rattle.seq_kernel.specs.Calls.{answers, lines_of, line_index, line_word, acquire, release, read_next, read, put_out, written, write, numbered, agree_on_call, call_of}
use Rattle.seq_kernel.specs.Steps.{after_effect, after_turn, pair_turn, step_of}
use Rattle.seq_kernel.specs.Kept.{keeps_segments}
use Rattle.seq_kernel.specs.Refinement.{takes_step}
use Rattle.seq_kernel.proofs.RefineCallsBits.{index_below, bit_off_other}
use Rattle.seq_kernel.specs.Counted.{goes_on, IsCounted, TurnsAreCounted, UnusedStay}

-- where no step is taken, the process stands as it did
still : (o : Outcome) → (takes_step o → ⊥) → goes_on o
still Done none = tt
still (Claim t) none = tt
still (NeedsFlush (cause.Release t)) none = tt
still (NeedsFlush cause.Exit) none = absurd (none tt)
still (NeedsFlush cause.Trap) none = absurd (none tt)
still (NeedsFlush cause.Commit) none = tt
still (NeedsFlush cause.Yield) none = tt
still (NeedsFlush (cause.Wait why)) none = tt
still (NeedsFlush cause.Room) none = tt
still (NeedsFlush cause.Quantum) none = tt
still (Waits why) none = tt
still Diverged none = tt

module _ (d : MachineDesc) (p : Copies) (r : Running) (c : Changes) where
  -- nothing changes
  stays_counted : (o : Outcome) → (takes_step o → ⊥) → IsCounted d r c (stays o r c)
  stays_counted o none = record {
    steps = λ step. absurd (none step);
    used = λ step. absurd (none step);
    end = λ on. refl;
    ended = λ dead. absurd (dead (still o none));
    reads = λ i past. refl;
    writes = λ i past. refl;
    held = λ keeps. refl;
    fewer = λ t on. on;
    given = λ t on off. refl;
    process = refl;
  }

  -- a step that changes neither positions nor what is held
  same_counted : (after : Turned) → goes_on after.outcome → after.running.pid ≡ r.pid → after.running.end ≡ r.end → after.running.steps ≡ r.steps + 1 → after.running.used ≡ r.used + 1 → after.running.reads ≡ r.reads → after.running.writes ≡ r.writes → after.running.held ≡ r.held → IsCounted d r c after
  same_counted after goes process end steps used reads writes held = record {
    steps = λ _. steps;
    used = λ _. used;
    end = λ _. end;
    ended = λ dead. absurd (dead goes);
    reads = λ i past. ap (λ xs. slice_index xs i) reads;
    writes = λ i past. ap (λ xs. slice_index xs i) writes;
    held = λ _. held;
    fewer = λ t on. ap (λ m. has_bit m t) (sym held) ∙ on;
    given = λ t on off. absurd (false≢true (sym off ∙ ap (λ m. has_bit m t) held ∙ on));
    process = process;
  }

  answer_counted : (o : Outcome) (answer : ℕ) → goes_on o → IsCounted d r c (record { outcome = o; running = answered r answer; cache = c })
  answer_counted o answer goes = same_counted (record { outcome = o; running = answered r answer; cache = c }) goes refl refl refl refl refl refl refl

  refuses : (answer : ℕ) → IsCounted d r c (answers r c answer)
  refuses answer = answer_counted Done answer tt

  ended_counted : (o : Outcome) (end : End) → (keeps_segments o → ⊥) → (goes_on o → ⊥) → end ≢ Live → IsCounted d r c (record { outcome = o; running = ended r end; cache = c })
  ended_counted o end gives stops dead = record {
    steps = λ _. refl;
    used = λ _. refl;
    end = λ on. absurd (stops on);
    ended = λ _. dead;
    reads = λ i past. refl;
    writes = λ i past. refl;
    held = λ keeps. absurd (gives keeps);
    fewer = λ t on. absurd (false≢true (sym (none t) ∙ on));
    given = λ t on off. refl;
    process = refl;
  }
    where
      none : (t : ℕ) → has_bit 0 t ≡ false
      none t = rw (bit_at-zero t) refl

  acquire_counted : (t : ℕ) → IsCounted d r c (acquire d r c t)
  unfolding acquire
  acquire_counted t =
      cond_both (not (nat_lt t (length d.segments))) _ _ (IsCounted d r c) (λ _. refuses (minus 3)) (λ known.
      cond_both (not (has_bit (process_of d r.pid.0).grants t)) _ _ (IsCounted d r c) (λ _. refuses (minus 4)) (λ _.
      cond_both (has_bit r.held t) _ _ (IsCounted d r c) (λ _. refuses (minus 1)) (λ free.
      cond_both (nat_lt 0 (r.held / 2 ^ (t + 1))) _ _ (IsCounted d r c) (λ _. refuses (minus 2)) (λ _. stays_counted (Claim (record { 0 = t })) (λ none. none)))))

  released_counted : (t : ℕ) → has_bit r.held t ≡ true → IsCounted d r c (record { outcome = NeedsFlush (cause.Release (record { 0 = t })); running = answered (record r { held = r.held - 2 ^ t }) 0; cache = c })
  released_counted t on = record {
    steps = λ _. refl;
    used = λ _. refl;
    end = λ _. refl;
    ended = λ dead. absurd (dead tt);
    reads = λ i past. refl;
    writes = λ i past. refl;
    held = λ keeps. absurd keeps;
    fewer = λ u left. elim (cases_eq u t) [
      | inl same ↦ ap (has_bit r.held) same ∙ on
      | inr other ↦ sym (bit_off_other r.held t u other on) ∙ left
    ];
    given = λ u was off. refl;
    process = refl;
  }

  release_counted : (t : ℕ) → IsCounted d r c (release d r c t)
  unfolding release
  release_counted t =
      cond_both (nat_lt t (length d.segments) && has_bit r.held t) _ _ (IsCounted d r c)
      (λ held. released_counted t (and_parts (nat_lt t (length d.segments)) (has_bit r.held t) held).1)
      (λ _. refuses (minus 1))

  -- a position of a line that the process has
  module _ (l : ℕ) (own : has_bit (lines_of d r) l ≡ true) where
    other_kept : (xs : List ℕ) (n i : ℕ) → count_ones (lines_of d r) ≤ i → slice_index (slice_set xs (line_index d r l) n) i ≡ slice_index xs i
    other_kept xs n i past = get_or-set_other xs (line_index d r l) i n 0 (λ same. let few = index_below (lines_of d r) l own in omega arith)

    next_counted : IsCounted d r c (read_next d p r c l)
    next_counted = record {
      steps = λ _. refl;
      used = λ _. refl;
      end = λ _. refl;
      ended = λ dead. absurd (dead tt);
      reads = λ i past. other_kept r.reads (slice_index r.reads (line_index d r l) + 1) i past;
      writes = λ i past. refl;
      held = λ _. refl;
      fewer = λ t on. on;
      given = λ t on off. absurd (false≢true (sym off ∙ on));
      process = refl;
    }

    put_counted : (bytes : List ℕ) → IsCounted d r c (put_out d p r c l bytes)
    put_counted bytes =
        let i : ℕ = line_index d r l in
        let from : ℕ = slice_index r.writes i in
        cond_both (nat_lt 1048576 (from + length bytes)) _ _ (IsCounted d r c) (λ _. refuses (minus 5)) (λ within.
        cond_both (nat_lt (256 + line_word d p l 2) (from + length bytes)) _ _ (IsCounted d r c) (λ _. stays_counted (Waits (reason.Outbox (record { 0 = l }) (line_word d p l 2))) (λ none. none)) (λ _.
        cond_both (nat_lt c.capacity (length c.changes + needed c r.pid.0 i from (length bytes))) _ _ (IsCounted d r c) (λ _. stays_counted (NeedsFlush cause.Room) (λ none. none)) (λ room.
        record {
          steps = λ _. refl;
          used = λ _. refl;
          end = λ _. refl;
          ended = λ dead. absurd (dead tt);
          reads = λ i past. refl;
          writes = λ k past. other_kept r.writes (from + length bytes) k past;
          held = λ _. refl;
          fewer = λ t on. on;
          given = λ t on off. absurd (false≢true (sym off ∙ on));
          process = refl;
        })))

    written_counted : (found : Option (List ℕ)) → IsCounted d r c (written d p r c l found)
    written_counted (Some bytes) = put_counted bytes
    written_counted None = refuses (minus 8)

  read_counted : (l : ℕ) → IsCounted d r c (read d p r c l)
  unfolding read
  read_counted l =
      cond_both (not (has_bit (lines_of d r) l)) _ _ (IsCounted d r c) (λ _. refuses (minus 6)) (λ own.
      cond_both (nat_lt (slice_index r.reads (line_index d r l)) (line_word d p l 0)) _ _ (IsCounted d r c) (λ more. next_counted l (not-false _ own)) (λ _.
      cond_both (line_word d p l 1 == 1) _ _ (IsCounted d r c) (λ _. refuses (minus 1)) (λ _. stays_counted (Waits (reason.Input (record { 0 = l }) (line_word d p l 0))) (λ none. none))))

  write_counted : (l at count : ℕ) → IsCounted d r c (write d p r c l at count)
  unfolding write
  write_counted l at count =
      cond_both (not (has_bit (lines_of d r) l)) _ _ (IsCounted d r c) (λ _. refuses (minus 6)) (λ own.
      cond_both (nat_lt 64 count) _ _ (IsCounted d r c) (λ _. refuses (minus 7)) (λ few. written_counted l (not-false _ own) (bytes_from (seen d r.pid.0 r.held (read_by d p c)) at count)))

  numbered_counted : (x : ℕ → ℕ) → IsCounted d r c (numbered d p r c x)
  unfolding numbered
  numbered_counted x =
      cond_both (x 17 == 0) _ _ (IsCounted d r c) (λ _. ended_counted (NeedsFlush cause.Exit) (Exited (x 10)) (λ none. none) (λ none. none) (λ e. cc)) (λ _.
      cond_both (x 17 == 1) _ _ (IsCounted d r c) (λ _. acquire_counted (x 10)) (λ _.
      cond_both (x 17 == 2) _ _ (IsCounted d r c) (λ _. release_counted (x 10)) (λ _.
      cond_both (x 17 == 3) _ _ (IsCounted d r c) (λ _. read_counted (x 10)) (λ _.
      cond_both (x 17 == 4) _ _ (IsCounted d r c) (λ _. write_counted (x 10) (x 11) (x 12)) (λ _.
      cond_both (x 17 == 5) _ _ (IsCounted d r c) (λ _. refuses r.pid.0) (λ _.
      cond_both (x 17 == 6) _ _ (IsCounted d r c) (λ _. answer_counted (NeedsFlush cause.Commit) 0 tt) (λ _.
      cond_both (x 17 == 7) _ _ (IsCounted d r c) (λ _. answer_counted (NeedsFlush cause.Yield) 0 tt) (λ _. refuses (minus 9)))))))))

  call_counted : IsCounted d r c (call_of d p r c)
  unfolding call_of
  call_counted = cond_both (agree_on_call r.pair) _ _ (IsCounted d r c) (λ _. numbered_counted (register r.pair.a)) (λ _. stays_counted Diverged (λ none. none))

  effect_counted : (e : Effect) → IsCounted d r c (after_effect d p r c e)
  effect_counted (effect.Next wrote store next) = same_counted (after_effect d p r c (effect.Next wrote store next)) tt refl refl refl refl refl refl refl
  effect_counted effect.Call = call_counted
  effect_counted (effect.Trap code) = ended_counted (NeedsFlush cause.Trap) (Trapped code r.pair.a.pc) (λ none. none) (λ none. none) (λ e. cc)
  effect_counted effect.Full = stays_counted (NeedsFlush cause.Room) (λ none. none)

  turn_counted : (t : Turn) → IsCounted d r c (after_turn d p r c t)
  turn_counted (turn.Agreed e) = effect_counted e
  turn_counted turn.Diverged = stays_counted Diverged (λ none. none)

pub turns_are_counted : TurnsAreCounted
unfolding step_of
turns_are_counted d p r c = turn_counted d p r c (pair_turn d p r c)

-- Positions that are 0 for lines that a process doesn't have stay so.
pub unused_stay : UnusedStay
unused_stay d p r c unused =
    let counted : IsCounted d r c (step_of d p r c) = turns_are_counted d p r c in
    let own : (i : ℕ) → count_ones (process_of d (step_of d p r c).running.pid.0).lines ≤ i → count_ones (lines_of d r) ≤ i = λ i past. subst (λ (q : Pid). count_ones (process_of d q.0).lines ≤ i) counted.process past in (
      record {
        reads = λ i past. counted.reads i (own i past) ∙ unused.reads i (own i past);
        writes = λ i past. counted.writes i (own i past) ∙ unused.writes i (own i past);
      },
      λ t. record { reads = unused.reads; writes = unused.writes },
    )
