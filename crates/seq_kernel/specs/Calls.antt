-- Kernel calls on the hardware. x17 holds the number of the call, x10 to x12 its arguments, and x10 gets the answer.
use Rattle.std.specs.Prelude.{◌≡◌, ℕ, ◌+◌, ◌-◌, ◌/◌, ◌^◌, ◌≤◌, Bool, not, ◌&&◌, ◌==◌, if◌then◌else◌, nat_lt, List, Option, Some, None, length, slice_index, slice_set}
use Rattle.std.specs.List.{list_all, range_with_len}
use Rattle.seq_words.specs.Masks.{has_bit}
use Rattle.seq_words.specs.declared.description.MachineDesc.{MachineDesc}
use Rattle.seq_words.specs.Description.{process_of}
use Rattle.seq_isa.specs.Meaning.{register}
use Rattle.seq_flat.specs.declared.state.End.TheVariants.{Exited}
use Rattle.seq_flat.specs.Memory.{bytes_from}
use Rattle.seq_flat.specs.Calls.{held_or_not, end_of_input, out_of_order, no_such_segment, not_granted, output_full, not_owned, too_long, outside, no_such_call}
use Rattle.seq_pair.specs.declared.halves.Pair.{Pair}
use Rattle.seq_layout.specs.Shapes.{shape_of, line_extent, index_of}
use Rattle.seq_layout.specs.Copies.{Copies, first_block, first_word}
use Rattle.seq_process.specs.declared.running.Running.{Running}
use Rattle.seq_cache.specs.Changes.{Changes}
use Rattle.seq_kernel.specs.declared.outcomes.Outcome.TheVariants.{Done, Claim, NeedsFlush, Waits, Diverged}
use Rattle.seq_kernel.specs.declared.outcomes.Cause.TheVariants as cause
use Rattle.seq_kernel.specs.declared.outcomes.Reason.TheVariants as reason
use Rattle.seq_kernel.specs.Views.{read_by, seen, byte_in}
use Rattle.seq_kernel.specs.Outboxes.{needed, outbox_filled}
use Rattle.seq_kernel.specs.Turns.{Turned, stays, answered, ended}

-- an answer, with the cache as it was
abbrev pub answers : Running → Changes → ℕ → Turned
answers r c answer = record { outcome = Done; running = answered r answer; cache = c }

-- the lines that the process owns, and the number of line l among them
abbrev pub lines_of : MachineDesc → Running → ℕ
lines_of d r = (process_of d r.pid.0).lines

abbrev pub line_index : MachineDesc → Running → ℕ → ℕ
line_index d r l = index_of (lines_of d r) l

-- the words of line l at its first copy: the journal count, the closed word, the sent count
abbrev pub line_word : MachineDesc → Copies → ℕ → ℕ → ℕ
line_word d p l n = first_word (shape_of d) p (line_extent (shape_of d) l) n

-- a byte of line l's journal at its first copy
abbrev pub journal_byte : MachineDesc → Copies → ℕ → ℕ → ℕ
journal_byte d p l at = byte_in (first_block (shape_of d) p) (line_extent (shape_of d) l) at

-- exit(code): x10 and pc stay
abbrev pub exit : Running → Changes → ℕ → Turned
exit r c code = record { outcome = NeedsFlush cause.Exit; running = ended r (Exited code); cache = c }

-- acquire(segment): where it is to be decided by the lock, nothing changes
unfoldable pub acquire : MachineDesc → Running → Changes → ℕ → Turned
acquire d r c t =
    if not (nat_lt t (length d.segments)) then answers r c no_such_segment
    else if not (has_bit (process_of d r.pid.0).grants t) then answers r c not_granted
    else if has_bit r.held t then answers r c held_or_not
    else if nat_lt 0 (r.held / 2 ^ (t + 1)) then answers r c out_of_order
    else stays (Claim (record { 0 = t })) r c

-- release(segment)
unfoldable pub release : MachineDesc → Running → Changes → ℕ → Turned
release d r c t =
    if nat_lt t (length d.segments) && has_bit r.held t
    then record { outcome = NeedsFlush (cause.Release (record { 0 = t })); running = answered (record r { held = r.held - 2 ^ t }) 0; cache = c }
    else answers r c held_or_not

-- the next byte of the line's journal is read
abbrev pub read_next : MachineDesc → Copies → Running → Changes → ℕ → Turned
read_next d p r c l =
    let i = line_index d r l in
    let at = slice_index r.reads i in
    record { outcome = Done; running = answered (record r { reads = slice_set r.reads i (at + 1) }) (journal_byte d p l at); cache = c }

-- read(line)
unfoldable pub read : MachineDesc → Copies → Running → Changes → ℕ → Turned
read d p r c l =
    if not (has_bit (lines_of d r) l) then answers r c not_owned
    else if nat_lt (slice_index r.reads (line_index d r l)) (line_word d p l 0) then read_next d p r c l
    else if line_word d p l 1 == 1 then answers r c end_of_input
    else stays (Waits (reason.Input (record { 0 = l }) (line_word d p l 0))) r c

-- the bytes of a write go to the outbox, where it and the cache have room for them
abbrev pub put_out : MachineDesc → Copies → Running → Changes → ℕ → List ℕ → Turned
put_out d p r c l bytes =
    let i = line_index d r l in
    let from = slice_index r.writes i in
    if nat_lt 1048576 (from + length bytes) then answers r c output_full
    else if nat_lt (256 + line_word d p l 2) (from + length bytes) then stays (Waits (reason.Outbox (record { 0 = l }) (line_word d p l 2))) r c
    else if nat_lt c.capacity (length c.changes + needed c r.pid.0 i from (length bytes)) then stays (NeedsFlush cause.Room) r c
    else record {
      outcome = Done;
      running = answered (record r { writes = slice_set r.writes i (from + length bytes) }) (length bytes);
      cache = outbox_filled (read_by d p c) c r.pid.0 i from bytes;
    }

abbrev pub written : MachineDesc → Copies → Running → Changes → ℕ → Option (List ℕ) → Turned
written d p r c l (Some bytes) = put_out d p r c l bytes
written d p r c l None = answers r c outside

-- write(line, address, length)
unfoldable pub write : MachineDesc → Copies → Running → Changes → ℕ → ℕ → ℕ → Turned
write d p r c l at count =
    if not (has_bit (lines_of d r) l) then answers r c not_owned
    else if nat_lt 64 count then answers r c too_long
    else written d p r c l (bytes_from (seen d r.pid.0 r.held (read_by d p c)) at count)

-- the call with the number in x17: exit, acquire, release, read, write, self, commit and yield
unfoldable pub numbered : MachineDesc → Copies → Running → Changes → (ℕ → ℕ) → Turned
numbered d p r c x =
    if x 17 == 0 then exit r c (x 10)
    else if x 17 == 1 then acquire d r c (x 10)
    else if x 17 == 2 then release d r c (x 10)
    else if x 17 == 3 then read d p r c (x 10)
    else if x 17 == 4 then write d p r c (x 10) (x 11) (x 12)
    else if x 17 == 5 then answers r c r.pid.0
    else if x 17 == 6 then record { outcome = NeedsFlush cause.Commit; running = answered r 0; cache = c }
    else if x 17 == 7 then record { outcome = NeedsFlush cause.Yield; running = answered r 0; cache = c }
    else answers r c no_such_call

-- the halves hold the same in pc and in x10 to x17
pub record AgreeOnCall (pair : Pair) : Type 0 where
  pub pc : pair.a.pc ≡ pair.b.pc
  pub argument : (i : ℕ) → 10 ≤ i → i ≤ 17 → slice_index pair.a.x i ≡ slice_index pair.b.x i

abbrev pub same_at : Pair → ℕ → Bool
same_at pair i = slice_index pair.a.x i == slice_index pair.b.x i

abbrev pub agree_on_call : Pair → Bool
agree_on_call pair = pair.a.pc == pair.b.pc && list_all (same_at pair) (range_with_len 10 8)

-- a kernel call
unfoldable pub call_of : MachineDesc → Copies → Running → Changes → Turned
call_of d p r c = if agree_on_call r.pair then numbered d p r c (register r.pair.a) else stays Diverged r c

-- the step of an acquire whose lock is held
abbrev pub granted : Running → ℕ → Running
granted r t = answered (record r { held = r.held + 2 ^ t }) 0
