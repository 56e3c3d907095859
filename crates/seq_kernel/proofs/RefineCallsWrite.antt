-- The call write.
use Rattle.std.proofs.Common.{◌≡◌, ℕ, zero, suc, ◌+◌, ◌%◌, ◌^◌, ◌<◌, ◌≤◌, true, false, List, [], ◌∷◌, ◌++◌, length, set, inl, inr, arith, refl, sym, ◌∙◌, ap, subst, get_or-set_same, get_or-set_other}
use Rattle.std.specs.Prelude.{nat_lt, if◌then◌else◌, slice_index, Option, Some, None, option_map, Ok}
use Rattle.std.proofs.lemmas.Bool.{cases_Bool, cases_lt, lt-ltb, le-ltb}
use Rattle.std.proofs.lemmas.List.{length-append, length_push}
use Rattle.std.proofs.lemmas.Option.{none-some, same_Some, option_and_then_some}
use Rattle.seq_words.specs.Masks.{has_bit}
use Rattle.seq_words.specs.Description.{IsDescription}
use Rattle.seq_words.specs.declared.description.MachineDesc.{MachineDesc}
use Rattle.seq_isa.specs.Meaning.{Bytes}
use Rattle.seq_flat.specs.declared.state.LineState.{LineState}
use Rattle.seq_flat.specs.declared.state.FlatState.{FlatState}
use Rattle.seq_flat.specs.declared.state.Rights.{Rights}
use Rattle.seq_flat.specs.State.{process_at, line_at, with_line}
use Rattle.seq_flat.specs.Memory.{bytes_from}
use Rattle.seq_flat.specs.Memory as memory
use Rattle.seq_flat.specs.Calls as flat
use Rattle.seq_layout.specs.Shapes.{shape_of}
use Rattle.seq_layout.specs.Copies.{Copies}
use Rattle.seq_process.specs.declared.running.Running.{Running}
use Rattle.seq_cache.specs.Changes.{Changes}
use Rattle.seq_kernel.specs.declared.outcomes.Outcome.TheVariants.{Done, NeedsFlush, Waits}
use Rattle.seq_kernel.specs.declared.outcomes.Cause.TheVariants as cause
use Rattle.seq_kernel.specs.declared.outcomes.Reason.TheVariants as reason
use Rattle.seq_kernel.specs.Views.{Blocks, read_by, seen}
use Rattle.seq_kernel.specs.Outboxes.{after_place, needed, outbox_filled}
use Rattle.seq_kernel.specs.Turns.{stays, answered}
use Rattle.seq_kernel.specs.Calls as kernel
use Rattle.seq_kernel.specs.Bounds.{IsRunning}
use Rattle.seq_flat.specs.Reached.{IsFlat}
use Rattle.seq_kernel.specs.Shown.{Shows, outbox_byte}
use Rattle.seq_flat.proofs.Moved.{flat_line}
use Rattle.seq_kernel.proofs.RefineCallsMeets.{Fits, Meets, choose_ok, either_fits, answer_meets, meets_by}
use Rattle.seq_kernel.proofs.RefineCallsLines.{line_shows, index_of_four}
use Rattle.seq_kernel.proofs.RefineCallsPlaces.{outbox_more}
use Rattle.seq_kernel.proofs.RefineCallsOutbox.{outbox_read, outbox_whole, outbox_keeps}

-- as many bytes are found as are asked for
one_more : (xs bytes : List ℕ) (byte : Option ℕ) → option_map (λ b. xs ++ b ∷ []) byte ≡ Some bytes → length bytes ≡ suc (length xs)
one_more xs bytes (Some b) found = ap length (sym (same_Some (xs ++ b ∷ []) bytes found)) ∙ length_push xs b ∙ omega arith
one_more xs bytes None found = absurd (none-some bytes found)

pub bytes_counted : (memory : Bytes) (at n : ℕ) (bytes : List ℕ) → bytes_from memory at n ≡ Some bytes → length bytes ≡ n
unfolding bytes_from
bytes_counted memory at zero bytes found = ap length (sym (same_Some [] bytes found))
bytes_counted memory at (suc n) bytes found =
    option_and_then_some (λ (xs : List ℕ). option_map (λ b. xs ++ b ∷ []) (memory ((at + n) % 2 ^ 32))) (bytes_from memory at n) bytes found
    (λ xs before last. one_more xs bytes (memory ((at + n) % 2 ^ 32)) last ∙ ap suc (bytes_counted memory at n xs before))

module _ (d : MachineDesc) (p : Copies) (r : Running) (c : Changes) (l at count : ℕ) where
  write_others : has_bit (kernel.lines_of d r) l ≡ false → kernel.write d p r c l at count ≡ kernel.answers r c (flat.minus 6)
  unfolding kernel.write
  write_others other = rw other refl

  write_long : has_bit (kernel.lines_of d r) l ≡ true → 64 < count → kernel.write d p r c l at count ≡ kernel.answers r c (flat.minus 7)
  unfolding kernel.write
  write_long own long = rw (own, lt-ltb 64 count long) refl

  write_few : has_bit (kernel.lines_of d r) l ≡ true → count ≤ 64 → kernel.write d p r c l at count ≡ kernel.written d p r c l (bytes_from (seen d r.pid.0 r.held (read_by d p c)) at count)
  unfolding kernel.write
  write_few own few = rw (own, le-ltb 64 count few) refl

module _ (rights : Rights) (f : FlatState) (p l at count : ℕ) where
  flat_write_others : has_bit rights.lines l ≡ false → flat.write rights f p l at count ≡ flat.answered f p (flat.minus 6)
  unfolding flat.write
  flat_write_others other = rw other refl

  flat_write_long : has_bit rights.lines l ≡ true → 64 < count → flat.write rights f p l at count ≡ flat.answered f p (flat.minus 7)
  unfolding flat.write
  flat_write_long own long = rw (own, lt-ltb 64 count long) refl

  flat_write_few : has_bit rights.lines l ≡ true → count ≤ 64 → flat.write rights f p l at count ≡ flat.written f p l (bytes_from (memory.seen (process_at f p).bytes f.segments p) at count)
  unfolding flat.write
  flat_write_few own few = rw (own, le-ltb 64 count few) refl

module _ (d : MachineDesc) (f : FlatState) (r : Running) (described : IsDescription d) (is : IsFlat d f) (running : IsRunning d r) (p : Copies) (c : Changes) (shows : Shows d f (read_by d p c) r) (l : ℕ) where
  -- the bytes are put out
  put_meets : (bytes : List ℕ) → length bytes ≤ 256 → has_bit (kernel.lines_of d r) l ≡ true
      → Meets d p
      (record {
        outcome = Done;
        running = answered (record r { writes = set r.writes (kernel.line_index d r l) (slice_index r.writes (kernel.line_index d r l) + length bytes) }) (length bytes);
        cache = outbox_filled (read_by d p c) c r.pid.0 (kernel.line_index d r l) (slice_index r.writes (kernel.line_index d r l)) bytes;
      })
      (Ok (flat.answered (with_line f l (record (line_at f l) { output = (line_at f l).output ++ bytes })) r.pid.0 (length bytes)))
  put_meets bytes few own =
      let i : ℕ = kernel.line_index d r l in
      let from : ℕ = slice_index r.writes i in
      let n : LineState = record (line_at f l) { output = (line_at f l).output ++ bytes } in
      let o : Blocks = read_by d p c in
      let after : Changes = outbox_filled o c r.pid.0 i from bytes in
      let line = shows.line l own in
      let room : i < length r.writes = omega (arith, index_of_four d f r described is running l own, running.within.positions.writes) in
      let more : from + length bytes ≡ length ((line_at f l).output ++ bytes) = omega (arith, line.written, length-append (line_at f l).output bytes) in
      answer_meets d (with_line f l n) p (record r { writes = set r.writes i (from + length bytes) }) after Done (length bytes) (flat_line d f l n is) running.within.process
      (line_shows d f r described is running l own o (read_by d p after) n r.reads (set r.writes i (from + length bytes)) shows (outbox_whole (shape_of d) p c r.pid.0 i from bytes shows.whole) (outbox_keeps (shape_of d) p c r.pid.0 i from bytes)
      (λ j other. refl) (λ j other. get_or-set_other r.writes i j (from + length bytes) 0 other)
      line.read (get_or-set_same r.writes i (from + length bytes) 0 room ∙ more)
      (λ q lt.
      outbox_read (shape_of d) p c r.pid.0 i from bytes q lt
      ∙ ap (λ (b : ℕ). if nat_lt (after_place from q) (length bytes) then slice_index bytes (after_place from q) else b) (line.outbox q lt)
      ∙ ap (λ (m : ℕ). if nat_lt (after_place m q) (length bytes) then slice_index bytes (after_place m q) else outbox_byte (line_at f l).output q) line.written
      ∙ sym (outbox_more (line_at f l).output bytes q lt few)))

  written_fits : (found : Option (List ℕ)) → ((bytes : List ℕ) → found ≡ Some bytes → length bytes ≤ 256) → has_bit (kernel.lines_of d r) l ≡ true → Fits d p (kernel.written d p r c l found) (Ok (flat.written f r.pid.0 l found))
  unfolding flat.written
  written_fits None few own = λ step. answer_meets d f p r c Done (flat.minus 8) is running.within.process shows
  written_fits (Some bytes) few own =
      choose_ok d p _ _ _ _ _ _ (ap (λ n. nat_lt 1048576 (n + length bytes)) (shows.line l own).written) (λ _. λ step. answer_meets d f p r c Done (flat.minus 5) is running.within.process shows) (λ _.
      let i : ℕ = kernel.line_index d r l in
      let from : ℕ = slice_index r.writes i in
      either_fits d p (nat_lt (256 + kernel.line_word d p l 2) (from + length bytes)) (stays (Waits (reason.Outbox (record { 0 = l }) (kernel.line_word d p l 2))) r c) _ _ (λ step. absurd step)
      (either_fits d p (nat_lt c.capacity (length c.changes + needed c r.pid.0 i from (length bytes))) (stays (NeedsFlush cause.Room) r c) _ _ (λ step. absurd step) (λ step. put_meets bytes (few bytes refl) own)))

  -- write
  pub write_fits : (rights : Rights) (at count : ℕ) → rights.lines ≡ kernel.lines_of d r → memory.seen (process_at f r.pid.0).bytes f.segments r.pid.0 ≡ seen d r.pid.0 r.held (read_by d p c)
      → Fits d p (kernel.write d p r c l at count) (Ok (flat.write rights f r.pid.0 l at count))
  write_fits rights at count same same_seen = elim (cases_Bool (has_bit (kernel.lines_of d r) l)) [
    | inr other ↦
        subst (λ after. Fits d p after (Ok (flat.write rights f r.pid.0 l at count))) (sym (write_others d p r c l at count other))
        (λ step. meets_by d p _ _ _ (ap Ok (flat_write_others rights f r.pid.0 l at count (ap (λ n. has_bit n l) same ∙ other))) (answer_meets d f p r c Done (flat.minus 6) is running.within.process shows))
    | inl own ↦
        let right : has_bit rights.lines l ≡ true = ap (λ n. has_bit n l) same ∙ own in
        elim (cases_lt 64 count) [
          | inl long ↦
              subst (λ after. Fits d p after (Ok (flat.write rights f r.pid.0 l at count))) (sym (write_long d p r c l at count own long))
              (λ step. meets_by d p _ _ _ (ap Ok (flat_write_long rights f r.pid.0 l at count right long)) (answer_meets d f p r c Done (flat.minus 7) is running.within.process shows))
          | inr few ↦
              let found = bytes_from (seen d r.pid.0 r.held (read_by d p c)) at count in
              let all_few : (bytes : List ℕ) → found ≡ Some bytes → length bytes ≤ 256 = λ bytes e. omega (arith, bytes_counted (seen d r.pid.0 r.held (read_by d p c)) at count bytes e) in
              subst (λ after. Fits d p after (Ok (flat.write rights f r.pid.0 l at count))) (sym (write_few d p r c l at count own few))
              (λ step. meets_by d p _ _ _ (ap Ok (flat_write_few rights f r.pid.0 l at count right few ∙ ap (λ (m : Bytes). flat.written f r.pid.0 l (bytes_from m at count)) same_seen)) (written_fits found all_few own step))
        ]
  ]
