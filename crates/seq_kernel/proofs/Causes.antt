-- What a kernel call comes to, in both directions, and that nothing changes where it takes no step.
use Rattle.std.proofs.Common.{◌≡◌, ◌≢◌, ◌↔◌, ℕ, ◌+◌, ◌-◌, ◌/◌, ◌^◌, ◌<◌, ◌≤◌, true, false, not, ◌&&◌, ◌==◌, nat_lt, List, Option, Some, None, length, arith, refl, sym, ◌∙◌, ap, subst}
use Rattle.std.specs.Prelude.{slice_index, slice_set, IsSome}
use Rattle.std.proofs.lemmas.Bool.{cond_both, and_parts, not-false, ltb-true, ltb-false, lt-ltb, le-ltb, eqb-true, eqb-false, ne_eqb, false≢true}
use Rattle.std.proofs.lemmas.Nat.Bits.{bit_at-zero}
use Rattle.seq_words.specs.Description.{process_of}
use Rattle.seq_words.specs.Masks.{has_bit}
use Rattle.seq_words.specs.declared.description.MachineDesc.{MachineDesc}
use Rattle.seq_words.specs.declared.names.Seg.{Seg}
use Rattle.seq_words.specs.declared.names.LineNo.{LineNo}
use Rattle.seq_isa.specs.Meaning.{register}
use Rattle.seq_flat.specs.declared.state.End.TheVariants.{Exited}
use Rattle.seq_flat.specs.Memory.{bytes_from}
use Rattle.seq_flat.specs.Calls.{minus}
use Rattle.seq_layout.specs.Copies.{Copies}
use Rattle.seq_process.specs.declared.running.Running.{Running}
use Rattle.seq_cache.specs.Changes.{Changes}
use Rattle.seq_kernel.specs.declared.outcomes.Outcome.{Outcome}
use Rattle.seq_kernel.specs.declared.outcomes.Outcome.TheVariants.{Done, Claim, NeedsFlush, Waits, Diverged}
use Rattle.seq_kernel.specs.declared.outcomes.Cause.{Cause}
use Rattle.seq_kernel.specs.declared.outcomes.Cause.TheVariants as cause
use Rattle.seq_kernel.specs.declared.outcomes.Reason.{Reason}
use Rattle.seq_kernel.specs.declared.outcomes.Reason.TheVariants as reason
use Rattle.seq_kernel.specs.Views.{read_by, seen}
use Rattle.seq_kernel.specs.Outboxes.{needed}
use Rattle.seq_kernel.specs.Turns.{Turned, stays, answered, ended}
use Rattle.seq_kernel.specs.Calls.{answers, lines_of, line_index, line_word, journal_byte, exit, acquire, release, read, put_out, written, write, numbered, agree_on_call, AgreeOnCall, call_of}
use Rattle.seq_kernel.specs.Kept.{IsUnchanged}
use Rattle.seq_kernel.specs.Refinement.{takes_step}
use Rattle.seq_kernel.specs.Causes.{argument, Asks, Acquires, Releases, AwaitsInput, written_before, Writes, AwaitsOutbox, LacksRoom, AwaitsFor, FlushesFor, ComesTo}
use Rattle.seq_kernel.specs.Halves.{KeepsHalves}
use Rattle.seq_kernel.proofs.Halves.{keeps_halves, answered_keeps}
use Rattle.seq_kernel.proofs.Agreed.{agree_test, agree_fact}
use Rattle.seq_kernel.proofs.RefineCallsBits.{bit_above, zero_from_bits}
use Rattle.seq_kernel.proofs.RefineCallsWrite.{bytes_counted}

no_bit : (t : ℕ) → has_bit 0 t ≡ false
no_bit t = rw (bit_at-zero t) refl

-- nothing is held above a segment where what stands above it in the mask is zero
none_above : (held t : ℕ) → nat_lt 0 (held / 2 ^ (t + 1)) ≡ false → (u : ℕ) → t < u → has_bit held u ≡ false
none_above held t none u lt =
    let zero : held / 2 ^ (t + 1) ≡ 0 = omega (arith, ltb-false 0 (held / 2 ^ (t + 1)) none) in
    let place : t + 1 + (u - t - 1) ≡ u = omega arith in
    ap (has_bit held) (sym place) ∙ sym (bit_above held (t + 1) (u - t - 1)) ∙ ap (λ n. has_bit n (u - t - 1)) zero ∙ no_bit (u - t - 1)

above_none : (held t : ℕ) → ((u : ℕ) → t < u → has_bit held u ≡ false) → nat_lt 0 (held / 2 ^ (t + 1)) ≡ false
above_none held t above =
    let zero : held / 2 ^ (t + 1) ≡ 0 = zero_from_bits (held / 2 ^ (t + 1)) (λ k. bit_above held (t + 1) k ∙ above (t + 1 + k) (omega arith)) in
    le-ltb 0 (held / 2 ^ (t + 1)) (omega arith)

module _ (d : MachineDesc) (p : Copies) (r : Running) (c : Changes) where
  -- a turn comes to its outcome for a reason, and where it takes no step nothing changes
  record Comes (t : Turned) : Type 0 where
    pub why : ComesTo d p r c t.outcome
    pub kept : (takes_step t.outcome → ⊥) → IsUnchanged r c t
    pub halves : KeepsHalves r t.running

  -- a step that answers, and one that ends the process
  steps : (o : Outcome) (s : Running) (n : ℕ) (k : Changes) → s.pair ≡ r.pair → takes_step o → ComesTo d p r c o → Comes (record { outcome = o; running = answered s n; cache = k })
  steps o s n k same step why = record { why = why; kept = λ none. absurd (none step); halves = answered_keeps r s n same }

  ends : (n : ℕ) → Asks r 0 → Comes (exit r c n)
  ends n asks = record { why = asks; kept = λ none. absurd (none tt); halves = keeps_halves r (ended r (Exited n)) refl (λ same. same) }

  stops : (o : Outcome) → ComesTo d p r c o → Comes (stays o r c)
  stops o why = record { why = why; kept = λ none. record { running = refl; cache = refl }; halves = keeps_halves r r refl (λ same. same) }

  answer : (n : ℕ) → Comes (answers r c n)
  answer n = steps Done r n c refl tt tt

  acquire_comes : Asks r 1 → (t : ℕ) → argument r 10 ≡ t → Comes (acquire d r c t)
  unfolding acquire
  acquire_comes asks t is =
      cond_both (not (nat_lt t (length d.segments))) _ _ Comes (λ _. answer (minus 3)) (λ known.
      cond_both (not (has_bit (process_of d r.pid.0).grants t)) _ _ Comes (λ _. answer (minus 4)) (λ granted.
      cond_both (has_bit r.held t) _ _ Comes (λ _. answer (minus 1)) (λ free.
      cond_both (nat_lt 0 (r.held / 2 ^ (t + 1))) _ _ Comes (λ _. answer (minus 2)) (λ none.
      stops (Claim (record { 0 = t })) (record {
        asks = asks;
        segment = is;
        known = ltb-true t (length d.segments) (not-false _ known);
        granted = not-false _ granted;
        free = free;
        above = none_above r.held t none;
      })))))

  release_comes : Asks r 2 → (t : ℕ) → argument r 10 ≡ t → Comes (release d r c t)
  unfolding release
  release_comes asks t is =
      cond_both (nat_lt t (length d.segments) && has_bit r.held t) _ _ Comes (λ both.
      let parts = and_parts (nat_lt t (length d.segments)) (has_bit r.held t) both in
      steps (NeedsFlush (cause.Release (record { 0 = t }))) (record r { held = r.held - 2 ^ t }) 0 c refl tt (record { asks = asks; segment = is; known = ltb-true t (length d.segments) parts.0; held = parts.1 }))
      (λ _. answer (minus 1))

  read_comes : Asks r 3 → (l : ℕ) → argument r 10 ≡ l → Comes (read d p r c l)
  unfolding read
  read_comes asks l is =
      cond_both (not (has_bit (lines_of d r) l)) _ _ Comes (λ _. answer (minus 6)) (λ own.
      cond_both (nat_lt (slice_index r.reads (line_index d r l)) (line_word d p l 0)) _ _ Comes (λ _. steps Done (record r { reads = slice_set r.reads (line_index d r l) (slice_index r.reads (line_index d r l) + 1) }) (journal_byte d p l (slice_index r.reads (line_index d r l))) c refl tt tt) (λ all_read.
      cond_both (line_word d p l 1 == 1) _ _ Comes (λ _. answer (minus 1)) (λ unclosed.
      stops (Waits (reason.Input (record { 0 = l }) (line_word d p l 0))) (record {
        asks = asks;
        line = is;
        own = not-false _ own;
        arrived = refl;
        all_read = ltb-false (slice_index r.reads (line_index d r l)) (line_word d p l 0) all_read;
        unclosed = eqb-false (line_word d p l 1) 1 unclosed;
      }))))

  module _ (asks : Asks r 4) (own : has_bit (lines_of d r) (argument r 10) ≡ true) (few : argument r 12 ≤ 64) where
    put_comes : (bytes : List ℕ) → bytes_from (seen d r.pid.0 r.held (read_by d p c)) (argument r 11) (argument r 12) ≡ Some bytes → Comes (put_out d p r c (argument r 10) bytes)
    put_comes bytes found =
        let i : ℕ = line_index d r (argument r 10) in
        let from : ℕ = slice_index r.writes i in
        let counted : length bytes ≡ argument r 12 = bytes_counted (seen d r.pid.0 r.held (read_by d p c)) (argument r 11) (argument r 12) bytes found in
        let inside : IsSome (bytes_from (seen d r.pid.0 r.held (read_by d p c)) (argument r 11) (argument r 12)) = subst IsSome (sym found) refl in
        cond_both (nat_lt 1048576 (from + length bytes)) _ _ Comes (λ _. answer (minus 5)) (λ within.
        let room : from + argument r 12 ≤ 1048576 = subst (λ n. from + n ≤ 1048576) counted (ltb-false 1048576 (from + length bytes) within) in
        cond_both (nat_lt (256 + line_word d p (argument r 10) 2) (from + length bytes)) _ _ Comes (λ full.
        stops (Waits (reason.Outbox (record { 0 = argument r 10 }) (line_word d p (argument r 10) 2))) (record {
          writes = record { asks = asks; own = own; few = few; inside = inside; room = room };
          line = refl;
          sent = refl;
          full = subst (λ n. 256 + line_word d p (argument r 10) 2 < from + n) counted (ltb-true (256 + line_word d p (argument r 10) 2) (from + length bytes) full);
        })) (λ fits.
        cond_both (nat_lt c.capacity (length c.changes + needed c r.pid.0 i from (length bytes))) _ _ Comes (λ full.
        stops (NeedsFlush cause.Room) (record {
          writes = record { asks = asks; own = own; few = few; inside = inside; room = room };
          outbox = subst (λ n. from + n ≤ 256 + line_word d p (argument r 10) 2) counted (ltb-false (256 + line_word d p (argument r 10) 2) (from + length bytes) fits);
          cache = subst (λ n. c.capacity < length c.changes + needed c r.pid.0 i from n) counted (ltb-true c.capacity (length c.changes + needed c r.pid.0 i from (length bytes)) full);
        })) (λ _. steps Done (record r { writes = slice_set r.writes i (from + length bytes) }) (length bytes) _ refl tt tt)))

    written_comes : (found : Option (List ℕ)) → bytes_from (seen d r.pid.0 r.held (read_by d p c)) (argument r 11) (argument r 12) ≡ found → Comes (written d p r c (argument r 10) found)
    written_comes (Some bytes) found = put_comes bytes found
    written_comes None found = answer (minus 8)

  write_comes : Asks r 4 → Comes (write d p r c (argument r 10) (argument r 11) (argument r 12))
  unfolding write
  write_comes asks =
      cond_both (not (has_bit (lines_of d r) (argument r 10))) _ _ Comes (λ _. answer (minus 6)) (λ own.
      cond_both (nat_lt 64 (argument r 12)) _ _ Comes (λ _. answer (minus 7)) (λ few.
      written_comes asks (not-false _ own) (ltb-false 64 (argument r 12) few) (bytes_from (seen d r.pid.0 r.held (read_by d p c)) (argument r 11) (argument r 12)) refl))

  numbered_comes : AgreeOnCall r.pair → Comes (numbered d p r c (register r.pair.a))
  unfolding numbered
  numbered_comes agree =
      cond_both (argument r 17 == 0) _ _ Comes (λ is. ends (argument r 10) (asked 0 is)) (λ _.
      cond_both (argument r 17 == 1) _ _ Comes (λ is. acquire_comes (asked 1 is) (argument r 10) refl) (λ _.
      cond_both (argument r 17 == 2) _ _ Comes (λ is. release_comes (asked 2 is) (argument r 10) refl) (λ _.
      cond_both (argument r 17 == 3) _ _ Comes (λ is. read_comes (asked 3 is) (argument r 10) refl) (λ _.
      cond_both (argument r 17 == 4) _ _ Comes (λ is. write_comes (asked 4 is)) (λ _.
      cond_both (argument r 17 == 5) _ _ Comes (λ _. answer r.pid.0) (λ _.
      cond_both (argument r 17 == 6) _ _ Comes (λ is. steps (NeedsFlush cause.Commit) r 0 c refl tt (asked 6 is)) (λ _.
      cond_both (argument r 17 == 7) _ _ Comes (λ is. steps (NeedsFlush cause.Yield) r 0 c refl tt (asked 7 is)) (λ _. answer (minus 9)))))))))
    where
      asked : (n : ℕ) → (argument r 17 == n) ≡ true → Asks r n
      asked n is = record { agree = agree; number = eqb-true (argument r 17) n is }

  call_comes : Comes (call_of d p r c)
  unfolding call_of
  call_comes = cond_both (agree_on_call r.pair) _ _ Comes (λ agree. numbered_comes (agree_fact r.pair agree)) (λ differ. stops Diverged (λ agree. false≢true (sym differ ∙ agree_test r.pair agree)))

  -- halves that agree make the call that they ask for
  pub called : agree_on_call r.pair ≡ true → call_of d p r c ≡ numbered d p r c (register r.pair.a)
  unfolding call_of
  called agree = rw agree refl

  -- the other way round: each reason leads to its outcome
  by_number : (t : Turned) (o : Outcome) (n : ℕ) → Asks r n → numbered d p r c (register r.pair.a) ≡ t → t.outcome ≡ o → (call_of d p r c).outcome ≡ o
  by_number t o n asks is out = ap (λ (x : Turned). x.outcome) (called (agree_test r.pair asks.agree) ∙ is) ∙ out

  number_exit : (x : ℕ → ℕ) → x 17 ≡ 0 → numbered d p r c x ≡ exit r c (x 10)
  unfolding numbered
  number_exit x is = rw is refl

  number_acquire : (x : ℕ → ℕ) → x 17 ≡ 1 → numbered d p r c x ≡ acquire d r c (x 10)
  unfolding numbered
  number_acquire x is = rw is refl

  number_release : (x : ℕ → ℕ) → x 17 ≡ 2 → numbered d p r c x ≡ release d r c (x 10)
  unfolding numbered
  number_release x is = rw is refl

  number_read : (x : ℕ → ℕ) → x 17 ≡ 3 → numbered d p r c x ≡ read d p r c (x 10)
  unfolding numbered
  number_read x is = rw is refl

  number_write : (x : ℕ → ℕ) → x 17 ≡ 4 → numbered d p r c x ≡ write d p r c (x 10) (x 11) (x 12)
  unfolding numbered
  number_write x is = rw is refl

  number_commit : (x : ℕ → ℕ) → x 17 ≡ 6 → numbered d p r c x ≡ record { outcome = NeedsFlush cause.Commit; running = answered r 0; cache = c }
  unfolding numbered
  number_commit x is = rw is refl

  number_yield : (x : ℕ → ℕ) → x 17 ≡ 7 → numbered d p r c x ≡ record { outcome = NeedsFlush cause.Yield; running = answered r 0; cache = c }
  unfolding numbered
  number_yield x is = rw is refl

  acquire_claims : (t : ℕ) → t < length d.segments → has_bit (process_of d r.pid.0).grants t ≡ true → has_bit r.held t ≡ false → nat_lt 0 (r.held / 2 ^ (t + 1)) ≡ false → acquire d r c t ≡ stays (Claim (record { 0 = t })) r c
  unfolding acquire
  acquire_claims t known granted free none = rw (lt-ltb t (length d.segments) known, granted, free, none) refl

  release_flushes : (t : ℕ) → t < length d.segments → has_bit r.held t ≡ true → (release d r c t).outcome ≡ NeedsFlush (cause.Release (record { 0 = t }))
  unfolding release
  release_flushes t known held = rw (lt-ltb t (length d.segments) known, held) refl

  read_waits : (l : ℕ) → has_bit (lines_of d r) l ≡ true → line_word d p l 0 ≤ slice_index r.reads (line_index d r l) → line_word d p l 1 ≢ 1 → read d p r c l ≡ stays (Waits (reason.Input (record { 0 = l }) (line_word d p l 0))) r c
  unfolding read
  read_waits l own all_read unclosed = rw (own, le-ltb (slice_index r.reads (line_index d r l)) (line_word d p l 0) all_read, ne_eqb (line_word d p l 1) 1 unclosed) refl

  puts_found : (l at count : ℕ) (bytes : List ℕ) → has_bit (lines_of d r) l ≡ true → count ≤ 64 → bytes_from (seen d r.pid.0 r.held (read_by d p c)) at count ≡ Some bytes → write d p r c l at count ≡ put_out d p r c l bytes
  unfolding write
  puts_found l at count bytes own few found = rw (own, le-ltb 64 count few, found) refl

  -- a write that isn't refused puts out as many bytes as it asks for
  write_puts : (l at count : ℕ) (found : Option (List ℕ)) → has_bit (lines_of d r) l ≡ true → count ≤ 64 → bytes_from (seen d r.pid.0 r.held (read_by d p c)) at count ≡ found → IsSome found → (bytes : List ℕ) × (length bytes ≡ count) × (write d p r c l at count ≡ put_out d p r c l bytes)
  write_puts l at count (Some bytes) own few found some = (bytes, bytes_counted (seen d r.pid.0 r.held (read_by d p c)) at count bytes found, puts_found l at count bytes own few found)
  write_puts l at count None own few found some = absurd (false≢true some)

  put_waits : (l : ℕ) (bytes : List ℕ) → slice_index r.writes (line_index d r l) + length bytes ≤ 1048576 → 256 + line_word d p l 2 < slice_index r.writes (line_index d r l) + length bytes → put_out d p r c l bytes ≡ stays (Waits (reason.Outbox (record { 0 = l }) (line_word d p l 2))) r c
  put_waits l bytes room full =
      let from : ℕ = slice_index r.writes (line_index d r l) in
      rw (le-ltb 1048576 (from + length bytes) room, lt-ltb (256 + line_word d p l 2) (from + length bytes) full) refl

  put_lacks : (l : ℕ) (bytes : List ℕ) → slice_index r.writes (line_index d r l) + length bytes ≤ 1048576 → slice_index r.writes (line_index d r l) + length bytes ≤ 256 + line_word d p l 2 → c.capacity < length c.changes + needed c r.pid.0 (line_index d r l) (slice_index r.writes (line_index d r l)) (length bytes) → put_out d p r c l bytes ≡ stays (NeedsFlush cause.Room) r c
  put_lacks l bytes room outbox full =
      let from : ℕ = slice_index r.writes (line_index d r l) in
      rw (le-ltb 1048576 (from + length bytes) room, le-ltb (256 + line_word d p l 2) (from + length bytes) outbox, lt-ltb c.capacity (length c.changes + needed c r.pid.0 (line_index d r l) from (length bytes)) full) refl

  acquires_comes : (t : Seg) → Acquires d r t.0 → (call_of d p r c).outcome ≡ Claim t
  acquires_comes t is =
      let x : ℕ → ℕ = register r.pair.a in
      by_number (stays (Claim t) r c) (Claim t) 1 is.asks (number_acquire x is.asks.number ∙ ap (acquire d r c) is.segment ∙ acquire_claims t.0 is.known is.granted is.free (above_none r.held t.0 is.above)) refl

  releases_comes : (t : Seg) → Releases d r t.0 → (call_of d p r c).outcome ≡ NeedsFlush (cause.Release t)
  releases_comes t is =
      let x : ℕ → ℕ = register r.pair.a in
      by_number (release d r c t.0) (NeedsFlush (cause.Release t)) 2 is.asks (number_release x is.asks.number ∙ ap (release d r c) is.segment) (release_flushes t.0 is.known is.held)

  input_comes : (l : LineNo) (count : ℕ) → AwaitsInput d p r l.0 count → (call_of d p r c).outcome ≡ Waits (reason.Input l count)
  input_comes l count is =
      let x : ℕ → ℕ = register r.pair.a in
      let all_read : line_word d p l.0 0 ≤ slice_index r.reads (line_index d r l.0) = subst (λ n. n ≤ slice_index r.reads (line_index d r l.0)) (sym is.arrived) is.all_read in
      by_number (stays (Waits (reason.Input l (line_word d p l.0 0))) r c) (Waits (reason.Input l count)) 3 is.asks (number_read x is.asks.number ∙ ap (read d p r c) is.line ∙ read_waits l.0 is.own all_read is.unclosed) (ap (λ n. Waits (reason.Input l n)) is.arrived)

  -- a write that isn't refused is that of its bytes
  writes_put : Writes d p r c → (bytes : List ℕ) × (length bytes ≡ argument r 12) × (numbered d p r c (register r.pair.a) ≡ put_out d p r c (argument r 10) bytes)
  writes_put is =
      let put = write_puts (argument r 10) (argument r 11) (argument r 12) (bytes_from (seen d r.pid.0 r.held (read_by d p c)) (argument r 11) (argument r 12)) is.own is.few refl is.inside in
      (put.0, put.1, number_write (register r.pair.a) is.asks.number ∙ put.2)

  outbox_comes : (l : LineNo) (sent : ℕ) → AwaitsOutbox d p r c l.0 sent → (call_of d p r c).outcome ≡ Waits (reason.Outbox l sent)
  outbox_comes l sent is =
      let put = writes_put is.writes in
      let from : ℕ = written_before d r in
      let room : from + length put.0 ≤ 1048576 = subst (λ n. from + n ≤ 1048576) (sym put.1) is.writes.room in
      let word : line_word d p (argument r 10) 2 ≡ sent = ap (λ n. line_word d p n 2) is.line ∙ is.sent in
      let more : 256 + line_word d p (argument r 10) 2 < from + argument r 12 = subst (λ n. 256 + n < from + argument r 12) (sym word) is.full in
      let full : 256 + line_word d p (argument r 10) 2 < from + length put.0 = subst (λ n. 256 + line_word d p (argument r 10) 2 < from + n) (sym put.1) more in
      by_number _ (Waits (reason.Outbox l sent)) 4 is.writes.asks (put.2 ∙ put_waits (argument r 10) put.0 room full) (ap (λ n. Waits (reason.Outbox (record { 0 = n }) (line_word d p (argument r 10) 2))) is.line ∙ ap (λ n. Waits (reason.Outbox l n)) word)

  room_comes : LacksRoom d p r c → (call_of d p r c).outcome ≡ NeedsFlush cause.Room
  room_comes is =
      let put = writes_put is.writes in
      let from : ℕ = written_before d r in
      let room : from + length put.0 ≤ 1048576 = subst (λ n. from + n ≤ 1048576) (sym put.1) is.writes.room in
      let outbox : from + length put.0 ≤ 256 + line_word d p (argument r 10) 2 = subst (λ n. from + n ≤ 256 + line_word d p (argument r 10) 2) (sym put.1) is.outbox in
      let full : c.capacity < length c.changes + needed c r.pid.0 (line_index d r (argument r 10)) from (length put.0) = subst (λ n. c.capacity < length c.changes + needed c r.pid.0 (line_index d r (argument r 10)) from n) (sym put.1) is.cache in
      by_number _ (NeedsFlush cause.Room) 4 is.writes.asks (put.2 ∙ put_lacks (argument r 10) put.0 room outbox full) refl

  differ_comes : ¬ (AgreeOnCall r.pair) → (call_of d p r c).outcome ≡ Diverged
  unfolding call_of
  differ_comes differ = cond_both (agree_on_call r.pair) (numbered d p r c (register r.pair.a)) (stays Diverged r c) (λ (t : Turned). t.outcome ≡ Diverged) (λ agree. absurd (differ (agree_fact r.pair agree))) (λ _. refl)

  waits_comes : (why : Reason) → AwaitsFor d p r c why → (call_of d p r c).outcome ≡ Waits why
  waits_comes (reason.Input l count) is = input_comes l count is
  waits_comes (reason.Outbox l sent) is = outbox_comes l sent is
  waits_comes (reason.Lock t q) is = absurd is

  flush_comes : (why : Cause) → FlushesFor d p r c why → (call_of d p r c).outcome ≡ NeedsFlush why
  flush_comes (cause.Release t) is = releases_comes t is
  flush_comes cause.Exit is = by_number (exit r c (argument r 10)) (NeedsFlush cause.Exit) 0 is (number_exit (register r.pair.a) is.number) refl
  flush_comes cause.Trap is = absurd is
  flush_comes cause.Commit is = by_number _ (NeedsFlush cause.Commit) 6 is (number_commit (register r.pair.a) is.number) refl
  flush_comes cause.Yield is = by_number _ (NeedsFlush cause.Yield) 7 is (number_yield (register r.pair.a) is.number) refl
  flush_comes (cause.Wait why) is = absurd is
  flush_comes cause.Room is = room_comes is
  flush_comes cause.Quantum is = absurd is

  -- for an outcome that is that of the call
  module _ (o : Outcome) (is : o ≡ (call_of d p r c).outcome) where
    comes : (x : Outcome) → o ≡ x → ComesTo d p r c x
    comes x same = subst (ComesTo d p r c) (sym is ∙ same) call_comes.why

    pub claims_exactly : (t : Seg) → (o ≡ Claim t) ↔ Acquires d r t.0
    claims_exactly t = (λ same. comes (Claim t) same, λ why. is ∙ acquires_comes t why)

    pub waits_exactly : (why : Reason) → (o ≡ Waits why) ↔ AwaitsFor d p r c why
    waits_exactly why = (λ same. comes (Waits why) same, λ here. is ∙ waits_comes why here)

    pub flushes_exactly : (why : Cause) → (o ≡ NeedsFlush why) ↔ FlushesFor d p r c why
    flushes_exactly why = (λ same. comes (NeedsFlush why) same, λ here. is ∙ flush_comes why here)

    pub diverges_exactly : (o ≡ Diverged) ↔ ¬ (AgreeOnCall r.pair)
    diverges_exactly = (λ same. comes Diverged same, λ differ. is ∙ differ_comes differ)

    pub stays_exactly : (takes_step o → ⊥) → IsUnchanged r c (call_of d p r c)
    stays_exactly none = call_comes.kept (λ step. none (subst takes_step (sym is) step))

  pub call_keeps_halves : KeepsHalves r (call_of d p r c).running
  call_keeps_halves = call_comes.halves
