-- What a kernel call keeps.
use Rattle.std.proofs.Common.{◌≡◌, ℕ, zero, suc, ◌+◌, ◌-◌, ◌/◌, ◌%◌, [], ◌∷◌, ◌++◌, ◌∙◌, ◌^◌, ◌<◌, ◌≤◌, true, not, ◌&&◌, ◌==◌, nat_lt, List, Option, Some, None, length, arith, refl, sym, ap}
use Rattle.std.specs.Prelude.{slice_index, slice_set, count_ones, option_map}
use Rattle.std.proofs.lemmas.Bool.{cond_both, and_parts, not-false, ltb-true, ltb-false}
use Rattle.std.proofs.lemmas.List.{length_push}
use Rattle.std.proofs.lemmas.Option.{none-some, same_Some, option_and_then_some}
use Rattle.seq_words.specs.Masks.{has_bit}
use Rattle.seq_words.specs.Description.{IsDescription, process_of}
use Rattle.seq_words.specs.declared.description.MachineDesc.{MachineDesc}
use Rattle.seq_isa.specs.Meaning.{Bytes, register}
use Rattle.seq_flat.specs.declared.state.End.{End}
use Rattle.seq_flat.specs.declared.state.End.TheVariants.{Exited}
use Rattle.seq_flat.specs.Memory.{bytes_from}
use Rattle.seq_flat.specs.Calls.{minus}
use Rattle.seq_layout.specs.Shapes.{shape_of}
use Rattle.seq_layout.specs.Copies.{Copies}
use Rattle.seq_process.specs.declared.running.Running.{Running}
use Rattle.seq_cache.specs.Changes.{Changes, IsCache}
use Rattle.seq_kernel.specs.declared.outcomes.Outcome.{Outcome}
use Rattle.seq_kernel.specs.declared.outcomes.Outcome.TheVariants.{Done, Claim, NeedsFlush, Waits, Diverged}
use Rattle.seq_kernel.specs.declared.outcomes.Cause.TheVariants as cause
use Rattle.seq_kernel.specs.declared.outcomes.Reason.TheVariants as reason
use Rattle.seq_kernel.specs.Views.{read_by, seen}
use Rattle.seq_kernel.specs.Outboxes.{needed, outbox_filled}
use Rattle.seq_kernel.specs.Turns.{Turned, stays, answered, ended}
use Rattle.seq_kernel.specs.Calls.{answers, lines_of, line_index, line_word, journal_byte, acquire, release, read_next, read, put_out, written, write, numbered, agree_on_call, call_of}
use Rattle.seq_kernel.specs.Bounds.{IsRunning, AreReadable}
use Rattle.seq_kernel.specs.Refinement.{takes_step}
use Rattle.seq_kernel.specs.Kept.{HasZeros, KeepsBounds, AreOwn, keeps_segments, KeepsCache}
use Rattle.seq_kernel.proofs.CallPlaces.{index_few, own_lines_few}
use Rattle.seq_kernel.proofs.KeptRunning.{answered_zeros, answered_within, ended_within, read_running, written_running, released_running}
use Rattle.seq_kernel.proofs.KeptCache.{outbox_cached, outbox_own}

-- no more bytes are found than are asked for
one_more : (xs bytes : List ℕ) (byte : Option ℕ) → option_map (λ b. xs ++ b ∷ []) byte ≡ Some bytes → length bytes ≡ suc (length xs)
one_more xs bytes (Some b) found = ap length (sym (same_Some (xs ++ b ∷ []) bytes found)) ∙ length_push xs b ∙ omega arith
one_more xs bytes None found = absurd (none-some bytes found)

bytes_counted : (memory : Bytes) (at n : ℕ) (bytes : List ℕ) → bytes_from memory at n ≡ Some bytes → length bytes ≡ n
unfolding bytes_from
bytes_counted memory at zero bytes found = ap length (sym (same_Some [] bytes found))
bytes_counted memory at (suc n) bytes found =
    option_and_then_some (λ (xs : List ℕ). option_map (λ b. xs ++ b ∷ []) (memory ((at + n) % 2 ^ 32))) (bytes_from memory at n) bytes found
    (λ xs before last. one_more xs bytes (memory ((at + n) % 2 ^ 32)) last ∙ ap suc (bytes_counted memory at n xs before))

-- a turn keeps the bounds, and the cache within its own
pub record Keeps (d : MachineDesc) (r : Running) (c : Changes) (after : Turned) : Type 0 where
  pub bounds : KeepsBounds d r c after
  pub cached : KeepsCache d r c after

-- nothing changes
pub stays_keeps : (d : MachineDesc) (r : Running) (c : Changes) (o : Outcome) → IsRunning d r → (takes_step o → ⊥) → Keeps d r c (stays o r c)
stays_keeps d r c o is none = record {
  bounds = record {
    unchanged = λ _. record { running = refl; cache = refl };
    within = is.within;
    zeros = λ zeros. zeros;
    process = refl;
    commits = refl;
  };
  cached = record { cache = λ is. is; held_before = λ own. own; own = λ _. λ own. own };
}

-- the process ends
pub ended_keeps : (d : MachineDesc) (r : Running) (c : Changes) (o : Outcome) (end : End) → IsRunning d r → takes_step o → (keeps_segments o → ⊥) → Keeps d r c (record { outcome = o; running = ended r end; cache = c })
ended_keeps d r c o end is step gives = record {
  bounds = record {
    unchanged = λ none. absurd (none step);
    within = ended_within d r end is;
    zeros = λ zeros. zeros;
    process = refl;
    commits = refl;
  };
  cached = record { cache = λ is. is; held_before = λ own. own; own = λ keeps. absurd (gives keeps) };
}

-- A call is answered, by a process that has changed before in its positions, in what it holds or in its cache.
answered_keeps : (d : MachineDesc) (r : Running) (c : Changes) (o : Outcome) (before : Running) (after : Changes) (answer : ℕ) → takes_step o → IsRunning d before → (HasZeros r.pair → HasZeros before.pair) → before.pid ≡ r.pid → before.commits ≡ r.commits
    → (IsCache c → IsCache after) → (AreOwn d r c.changes → AreOwn d r after.changes) → (keeps_segments o → AreOwn d r c.changes → AreOwn d before after.changes) → Keeps d r c (record { outcome = o; running = answered before answer; cache = after })
answered_keeps d r c o before after answer step is zeros same counts cached held owned = record {
  bounds = record {
    unchanged = λ none. absurd (none step);
    within = answered_within d before answer is;
    zeros = λ was. answered_zeros before answer (zeros was);
    process = same;
    commits = counts;
  };
  cached = record { cache = cached; held_before = held; own = owned };
}

-- an answer alone
answer_keeps : (d : MachineDesc) (r : Running) (c : Changes) (o : Outcome) (answer : ℕ) → takes_step o → IsRunning d r → Keeps d r c (record { outcome = o; running = answered r answer; cache = c })
answer_keeps d r c o answer step is = answered_keeps d r c o r c answer step is (λ zeros. zeros) refl refl (λ is. is) (λ own. own) (λ _. λ own. own)

module _ (d : MachineDesc) (p : Copies) (r : Running) (c : Changes) (described : IsDescription d) (readable : AreReadable d p) (running : IsRunning d r) where
  refuses : (answer : ℕ) → Keeps d r c (answers r c answer)
  refuses answer = answer_keeps d r c Done answer tt running

  acquire_keeps : (t : ℕ) → Keeps d r c (acquire d r c t)
  unfolding acquire
  acquire_keeps t =
      cond_both (not (nat_lt t (length d.segments))) _ _ (Keeps d r c) (λ _. refuses (minus 3)) (λ _.
      cond_both (not (has_bit (process_of d r.pid.0).grants t)) _ _ (Keeps d r c) (λ _. refuses (minus 4)) (λ _.
      cond_both (has_bit r.held t) _ _ (Keeps d r c) (λ _. refuses (minus 1)) (λ _.
      cond_both (nat_lt 0 (r.held / 2 ^ (t + 1))) _ _ (Keeps d r c) (λ _. refuses (minus 2)) (λ _. stays_keeps d r c (Claim (record { 0 = t })) running (λ none. none)))))

  release_keeps : (t : ℕ) → Keeps d r c (release d r c t)
  unfolding release
  release_keeps t =
      cond_both (nat_lt t (length d.segments) && has_bit r.held t) _ _ (Keeps d r c)
      (λ held. answered_keeps d r c (NeedsFlush (cause.Release (record { 0 = t }))) (record r { held = r.held - 2 ^ t }) c 0 tt (released_running d r t running (and_parts (nat_lt t (length d.segments)) (has_bit r.held t) held).1) (λ zeros. zeros) refl refl (λ is. is) (λ own. own) (λ none. absurd none))
      (λ _. refuses (minus 1))

  -- a line of the process has one of its four numbers
  module _ (l : ℕ) (own : has_bit (lines_of d r) l ≡ true) where
    number_few : line_index d r l < count_ones (process_of d r.pid.0).lines
    number_few = index_few d r.pid.0 l described running.within.process own

    number_of_four : line_index d r l < 4
    number_of_four = omega (arith, number_few, own_lines_few d r.pid.0 described running.within.process)

    next_keeps : slice_index r.reads (line_index d r l) < line_word d p l 0 → Keeps d r c (read_next d p r c l)
    next_keeps more =
        let i = line_index d r l in
        let at = slice_index r.reads i in
        answered_keeps d r c Done (record r { reads = slice_set r.reads i (at + 1) }) c (journal_byte d p l at) tt (read_running d r i (at + 1) running number_of_four (omega (arith, readable.counts l))) (λ zeros. zeros) refl refl (λ is. is) (λ own. own) (λ _. λ own. own)

    put_keeps : (bytes : List ℕ) → length bytes ≤ 64 → Keeps d r c (put_out d p r c l bytes)
    put_keeps bytes few =
        let i = line_index d r l in
        let from = slice_index r.writes i in
        cond_both (nat_lt 1048576 (from + length bytes)) _ _ (Keeps d r c) (λ _. refuses (minus 5)) (λ within.
        cond_both (nat_lt (256 + line_word d p l 2) (from + length bytes)) _ _ (Keeps d r c) (λ _. stays_keeps d r c (Waits (reason.Outbox (record { 0 = l }) (line_word d p l 2))) running (λ none. none)) (λ _.
        cond_both (nat_lt c.capacity (length c.changes + needed c r.pid.0 i from (length bytes))) _ _ (Keeps d r c) (λ _. stays_keeps d r c (NeedsFlush cause.Room) running (λ none. none)) (λ room.
        answered_keeps d r c Done (record r { writes = slice_set r.writes i (from + length bytes) }) (outbox_filled (read_by d p c) c r.pid.0 i from bytes) (length bytes) tt
        (written_running d r i (from + length bytes) running number_of_four (ltb-false 1048576 (from + length bytes) within))
        (λ zeros. zeros) refl refl
        (λ is. outbox_cached (shape_of d) p c r.pid.0 i from bytes is few (ltb-false c.capacity (length c.changes + needed c r.pid.0 i from (length bytes)) room))
        (λ own. outbox_own d r c described running (read_by d p c) i from bytes number_few own)
        (λ _. λ own. outbox_own d r c described running (read_by d p c) i from bytes number_few own))))

    written_keeps : (found : Option (List ℕ)) → ((bytes : List ℕ) → found ≡ Some bytes → length bytes ≤ 64) → Keeps d r c (written d p r c l found)
    written_keeps (Some bytes) few = put_keeps bytes (few bytes refl)
    written_keeps None few = refuses (minus 8)

  read_keeps : (l : ℕ) → Keeps d r c (read d p r c l)
  unfolding read
  read_keeps l =
      cond_both (not (has_bit (lines_of d r) l)) _ _ (Keeps d r c) (λ _. refuses (minus 6)) (λ own.
      cond_both (nat_lt (slice_index r.reads (line_index d r l)) (line_word d p l 0)) _ _ (Keeps d r c) (λ more. next_keeps l (not-false _ own) (ltb-true _ _ more)) (λ _.
      cond_both (line_word d p l 1 == 1) _ _ (Keeps d r c) (λ _. refuses (minus 1)) (λ _. stays_keeps d r c (Waits (reason.Input (record { 0 = l }) (line_word d p l 0))) running (λ none. none))))

  write_keeps : (l at count : ℕ) → Keeps d r c (write d p r c l at count)
  unfolding write
  write_keeps l at count =
      let memory = seen d r.pid.0 r.held (read_by d p c) in
      cond_both (not (has_bit (lines_of d r) l)) _ _ (Keeps d r c) (λ _. refuses (minus 6)) (λ own.
      cond_both (nat_lt 64 count) _ _ (Keeps d r c) (λ _. refuses (minus 7)) (λ few.
      let small : count ≤ 64 = ltb-false 64 count few in
      written_keeps l (not-false _ own) (bytes_from memory at count) (λ bytes found. omega (arith, bytes_counted memory at count bytes found))))

  numbered_keeps : (x : ℕ → ℕ) → Keeps d r c (numbered d p r c x)
  unfolding numbered
  numbered_keeps x =
      cond_both (x 17 == 0) _ _ (Keeps d r c) (λ _. ended_keeps d r c (NeedsFlush cause.Exit) (Exited (x 10)) running tt (λ none. none)) (λ _.
      cond_both (x 17 == 1) _ _ (Keeps d r c) (λ _. acquire_keeps (x 10)) (λ _.
      cond_both (x 17 == 2) _ _ (Keeps d r c) (λ _. release_keeps (x 10)) (λ _.
      cond_both (x 17 == 3) _ _ (Keeps d r c) (λ _. read_keeps (x 10)) (λ _.
      cond_both (x 17 == 4) _ _ (Keeps d r c) (λ _. write_keeps (x 10) (x 11) (x 12)) (λ _.
      cond_both (x 17 == 5) _ _ (Keeps d r c) (λ _. refuses r.pid.0) (λ _.
      cond_both (x 17 == 6) _ _ (Keeps d r c) (λ _. answer_keeps d r c (NeedsFlush cause.Commit) 0 tt running) (λ _.
      cond_both (x 17 == 7) _ _ (Keeps d r c) (λ _. answer_keeps d r c (NeedsFlush cause.Yield) 0 tt running) (λ _. refuses (minus 9)))))))))

  pub call_keeps : Keeps d r c (call_of d p r c)
  unfolding call_of
  call_keeps = cond_both (agree_on_call r.pair) _ _ (Keeps d r c) (λ _. numbered_keeps (register r.pair.a)) (λ _. stays_keeps d r c Diverged running (λ none. none))
