-- What a kernel call comes to, case by case.
use Rattle.std.proofs.Common.{◌≡◌, ◌≢◌, ℕ, ◌+◌, ◌/◌, ◌^◌, ◌≤◌, Bool, true, false, not, ◌&&◌, ◌==◌, nat_lt, if◌then◌else◌, List, Option, Some, None, length, get_or, set, refl}
use Rattle.std.proofs.lemmas.Bool.{le-ltb}
use Rattle.seq_words.specs.Masks.{has_bit}
use Rattle.seq_words.specs.declared.description.MachineDesc.{MachineDesc}
use Rattle.seq_words.specs.Description.{process_of}
use Rattle.seq_flat.specs.Memory.{bytes_from}
use Rattle.seq_layout.specs.Copies.{Copies}
use Rattle.seq_process.specs.declared.running.Running.{Running}
use Rattle.seq_cache.specs.Changes.{Changes}
use Rattle.seq_kernel.specs.declared.outcomes.Outcome.TheVariants.{Done, NeedsFlush, Diverged}
use Rattle.seq_kernel.specs.declared.outcomes.Cause.TheVariants.{Room}
use Rattle.seq_kernel.specs.Views.{read_by, seen}
use Rattle.seq_kernel.specs.Outboxes.{needed, outbox_filled}
use Rattle.seq_kernel.specs.Turns.{Turned, stays, answered}
use Rattle.seq_kernel.specs.Calls.{lines_of, line_index, line_word, acquire, release, read, put_out, written, write, numbered}

-- what holds both ways of a choice
either_way : (P : Turned → Type 0) (test : Bool) (x y : Turned) → P x → P y → P (if test then x else y)
either_way P true x y p q = p
either_way P false x y p q = q

-- the cache is as it was, and the halves don't differ
record Stays (c : Changes) (t : Turned) : Type 0 where
  pub kept : t.cache ≡ c
  pub goes : t.outcome ≢ Diverged

acquire_stays : (d : MachineDesc) (r : Running) (c : Changes) (t : ℕ) → Stays c (acquire d r c t)
unfolding acquire
acquire_stays d r c t =
    either_way (Stays c) (not (nat_lt t (length d.segments))) _ _ (record { kept = refl; goes = λ e. cc })
    (either_way (Stays c) (not (has_bit (process_of d r.pid.0).grants t)) _ _ (record { kept = refl; goes = λ e. cc })
    (either_way (Stays c) (has_bit r.held t) _ _ (record { kept = refl; goes = λ e. cc })
    (either_way (Stays c) (nat_lt 0 (r.held / 2 ^ (t + 1))) _ _ (record { kept = refl; goes = λ e. cc }) (record { kept = refl; goes = λ e. cc }))))

release_stays : (d : MachineDesc) (r : Running) (c : Changes) (t : ℕ) → Stays c (release d r c t)
unfolding release
release_stays d r c t = either_way (Stays c) (nat_lt t (length d.segments) && has_bit r.held t) _ _ (record { kept = refl; goes = λ e. cc }) (record { kept = refl; goes = λ e. cc })

read_stays : (d : MachineDesc) (p : Copies) (r : Running) (c : Changes) (l : ℕ) → Stays c (read d p r c l)
unfolding read
read_stays d p r c l =
    either_way (Stays c) (not (has_bit (lines_of d r) l)) _ _ (record { kept = refl; goes = λ e. cc })
    (either_way (Stays c) (nat_lt (get_or r.reads (line_index d r l) 0) (line_word d p l 0)) _ _ (record { kept = refl; goes = λ e. cc })
    (either_way (Stays c) (line_word d p l 1 == 1) _ _ (record { kept = refl; goes = λ e. cc }) (record { kept = refl; goes = λ e. cc })))

-- acquire, release and read leave the cache as it was
pub acquire_cache : (d : MachineDesc) (r : Running) (c : Changes) (t : ℕ) → (acquire d r c t).cache ≡ c
acquire_cache d r c t = (acquire_stays d r c t).kept

pub release_cache : (d : MachineDesc) (r : Running) (c : Changes) (t : ℕ) → (release d r c t).cache ≡ c
release_cache d r c t = (release_stays d r c t).kept

pub read_cache : (d : MachineDesc) (p : Copies) (r : Running) (c : Changes) (l : ℕ) → (read d p r c l).cache ≡ c
read_cache d p r c l = (read_stays d p r c l).kept

-- a write of bytes that are all there
pub write_found : (d : MachineDesc) (p : Copies) (r : Running) (c : Changes) (l own at count : ℕ) (bytes : List ℕ) → own ≡ l → true ≡ has_bit (lines_of d r) l → count ≤ 64 → bytes_from (seen d r.pid.0 r.held (read_by d p c)) at count ≡ Some bytes
    → write d p r c l at count ≡ put_out d p r c own bytes
unfolding write
write_found d p r c l own at count bytes same owned few found = rw (same, ← owned, le-ltb 64 count few, found) refl

-- Bytes that the output and the outbox have room for: they wait for the cache, or are put out.
module _ (d : MachineDesc) (p : Copies) (r : Running) (c : Changes) (l : ℕ) (bytes : List ℕ) (i : ℕ) (is : i ≡ line_index d r l) (small : get_or r.writes i 0 + length bytes ≤ 1048576) (room : get_or r.writes i 0 + length bytes ≤ 256 + line_word d p l 2) where
  pub put_out_full : nat_lt c.capacity (length c.changes + needed c r.pid.0 i (get_or r.writes i 0) (length bytes)) ≡ true → put_out d p r c l bytes ≡ stays (NeedsFlush Room) r c
  put_out_full full = rw (← is, le-ltb 1048576 (get_or r.writes i 0 + length bytes) small, le-ltb (256 + line_word d p l 2) (get_or r.writes i 0 + length bytes) room, full) refl

  pub put_out_done : nat_lt c.capacity (length c.changes + needed c r.pid.0 i (get_or r.writes i 0) (length bytes)) ≡ false →
      put_out d p r c l bytes ≡ record { outcome = Done; running = answered (record r { writes = set r.writes i (get_or r.writes i 0 + length bytes) }) (length bytes); cache = outbox_filled (read_by d p c) c r.pid.0 i (get_or r.writes i 0) bytes }
  put_out_done fits = rw (← is, le-ltb 1048576 (get_or r.writes i 0 + length bytes) small, le-ltb (256 + line_word d p l 2) (get_or r.writes i 0 + length bytes) room, fits) refl

-- the halves don't differ
record Goes (t : Turned) : Type 0 where
  pub goes : t.outcome ≢ Diverged

written_goes : (d : MachineDesc) (p : Copies) (r : Running) (c : Changes) (l : ℕ) (bytes : Option (List ℕ)) → Goes (written d p r c l bytes)
written_goes d p r c l None = record { goes = λ e. cc }
written_goes d p r c l (Some bytes) =
    let i = line_index d r l in
    let after = get_or r.writes i 0 + length bytes in
    either_way Goes (nat_lt 1048576 after) _ _ (record { goes = λ e. cc })
    (either_way Goes (nat_lt (256 + line_word d p l 2) after) _ _ (record { goes = λ e. cc })
    (either_way Goes (nat_lt c.capacity (length c.changes + needed c r.pid.0 i (get_or r.writes i 0) (length bytes))) _ _ (record { goes = λ e. cc }) (record { goes = λ e. cc })))

write_goes : (d : MachineDesc) (p : Copies) (r : Running) (c : Changes) (l at count : ℕ) → Goes (write d p r c l at count)
unfolding write
write_goes d p r c l at count =
    either_way Goes (not (has_bit (lines_of d r) l)) _ _ (record { goes = λ e. cc })
    (either_way Goes (nat_lt 64 count) _ _ (record { goes = λ e. cc }) (written_goes d p r c l (bytes_from (seen d r.pid.0 r.held (read_by d p c)) at count)))

-- no call says that the halves differ
numbered_goes : (d : MachineDesc) (p : Copies) (r : Running) (c : Changes) (x : ℕ → ℕ) → Goes (numbered d p r c x)
unfolding numbered
numbered_goes d p r c x =
    either_way Goes (x 17 == 0) _ _ (record { goes = λ e. cc })
    (either_way Goes (x 17 == 1) _ _ (record { goes = (acquire_stays d r c (x 10)).goes })
    (either_way Goes (x 17 == 2) _ _ (record { goes = (release_stays d r c (x 10)).goes })
    (either_way Goes (x 17 == 3) _ _ (record { goes = (read_stays d p r c (x 10)).goes })
    (either_way Goes (x 17 == 4) _ _ (write_goes d p r c (x 10) (x 11) (x 12))
    (either_way Goes (x 17 == 5) _ _ (record { goes = λ e. cc })
    (either_way Goes (x 17 == 6) _ _ (record { goes = λ e. cc })
    (either_way Goes (x 17 == 7) _ _ (record { goes = λ e. cc }) (record { goes = λ e. cc }))))))))

pub never_diverged : (d : MachineDesc) (p : Copies) (r : Running) (c : Changes) (x : ℕ → ℕ) → (numbered d p r c x).outcome ≢ Diverged
never_diverged d p r c x = (numbered_goes d p r c x).goes
