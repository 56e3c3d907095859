-- Kernel calls. x17 holds the number of the call, x10 to x12 its arguments, and x10 gets the answer.
use Rattle.std.specs.Prelude.{ℕ, ◌+◌, ◌-◌, ◌^◌, not, ◌&&◌, ◌||◌, ◌==◌, if◌then◌else◌, nat_lt, List, ◌++◌, Option, Some, None, Result, Ok, Err, length, map, drop, slice_get}
use Rattle.std.specs.List.{list_any}
use Rattle.seq_words.specs.declared.names.Pid.{Pid}
use Rattle.seq_words.specs.Masks.{has_bit}
use Rattle.seq_isa.specs.Meaning.{register, registers_after, following}
use Rattle.seq_flat.specs.declared.inputs.LineInput.{LineInput}
use Rattle.seq_flat.specs.declared.state.End.{End}
use Rattle.seq_flat.specs.declared.state.End.TheVariants.{Exited}
use Rattle.seq_flat.specs.declared.state.SegmentState.{SegmentState}
use Rattle.seq_flat.specs.declared.state.FlatState.{FlatState}
use Rattle.seq_flat.specs.declared.state.Rights.{Rights}
use Rattle.seq_flat.specs.declared.state.Waits.{Waits}
use Rattle.seq_flat.specs.declared.state.Waits.TheVariants.{Lock, Input}
use Rattle.seq_flat.specs.State.{process_at, segment_at, line_at, input_at, with_process, with_segment, with_line}
use Rattle.seq_flat.specs.Memory.{is_owner, seen, bytes_from}

-- an answer below zero, in two's complement
abbrev pub minus : ℕ → ℕ
minus n = 2 ^ 32 - n

-- the segment is held already, or isn't held; and the end of a closed line
abbrev pub held_or_not : ℕ
held_or_not = minus 1

abbrev pub end_of_input : ℕ
end_of_input = minus 1

-- the segment isn't above every one that is held
abbrev pub out_of_order : ℕ
out_of_order = minus 2

-- there is no such segment, and it isn't granted
abbrev pub no_such_segment : ℕ
no_such_segment = minus 3

abbrev pub not_granted : ℕ
not_granted = minus 4

-- the line's output would grow beyond its limit
abbrev pub output_full : ℕ
output_full = minus 5

-- the line is another's
abbrev pub not_owned : ℕ
not_owned = minus 6

-- more bytes than one write may have, and bytes outside the process's memory
abbrev pub too_long : ℕ
too_long = minus 7

abbrev pub outside : ℕ
outside = minus 8

-- there is no call with this number
abbrev pub no_such_call : ℕ
no_such_call = minus 9

-- what argument register 10, 11 or 12 of process p holds
abbrev pub argument : FlatState → ℕ → ℕ → ℕ
argument f p r = register (process_at f p).regs r

-- process p gets an answer in x10 and goes on with the next instruction
unfoldable pub answered : FlatState → ℕ → ℕ → FlatState
answered f p answer =
    let q = process_at f p in
    with_process f p (record q { regs = registers_after q.regs (Some (10, answer)) (following q.regs) })

-- a segment that process p gives up, if it holds it
abbrev pub given_up : ℕ → SegmentState → SegmentState
given_up p s = if is_owner p s.owner then record s { owner = None } else s

-- process p has ended, and gives up what it holds
unfoldable pub ended : FlatState → ℕ → End → FlatState
ended f p e = record (with_process f p (record (process_at f p) { end = e })) { segments = map (given_up p) f.segments }

-- a segment goes to process p, where it is free
abbrev pub taken_by : FlatState → ℕ → ℕ → Option Pid → Result FlatState Waits
taken_by f p s None = Ok (answered (with_segment f s (record (segment_at f s) { owner = Some (record { 0 = p }) })) p 0)
taken_by f p s (Some holder) = Err (Lock (record { 0 = s }) holder)

-- acquire(segment)
unfoldable pub acquire : Rights → FlatState → ℕ → ℕ → Result FlatState Waits
acquire rights f p s =
    if not (nat_lt s (length f.segments)) then Ok (answered f p no_such_segment)
    else if not (has_bit rights.grants s) then Ok (answered f p not_granted)
    else if is_owner p (segment_at f s).owner then Ok (answered f p held_or_not)
    else if list_any (λ t. is_owner p t.owner) (drop (s + 1) f.segments) then Ok (answered f p out_of_order)
    else taken_by f p s (segment_at f s).owner

-- release(segment)
unfoldable pub release : FlatState → ℕ → ℕ → FlatState
release f p s =
    if nat_lt s (length f.segments) && is_owner p (segment_at f s).owner
    then answered (with_segment f s (record (segment_at f s) { owner = None })) p 0
    else answered f p held_or_not

-- the next byte of a line, if it has arrived
abbrev pub read_next : FlatState → ℕ → ℕ → LineInput → Option ℕ → Result FlatState Waits
read_next f p l input (Some byte) = Ok (answered (with_line f l (record (line_at f l) { read = (line_at f l).read + 1 })) p byte)
read_next f p l input None = if input.closed then Ok (answered f p end_of_input) else Err (Input (record { 0 = l }))

-- read(line)
unfoldable pub read : Rights → List LineInput → FlatState → ℕ → ℕ → Result FlatState Waits
read rights inputs f p l =
    if not (has_bit rights.lines l) then Ok (answered f p not_owned)
    else read_next f p l (input_at inputs l) (slice_get (input_at inputs l).bytes (line_at f l).read)

-- bytes are added to a line's output, while there is room for them
unfoldable pub written : FlatState → ℕ → ℕ → Option (List ℕ) → FlatState
written f p l None = answered f p outside
written f p l (Some bytes) =
    if nat_lt 1048576 (length (line_at f l).output + length bytes) then answered f p output_full
    else answered (with_line f l (record (line_at f l) { output = (line_at f l).output ++ bytes })) p (length bytes)

-- write(line, address, length)
unfoldable pub write : Rights → FlatState → ℕ → ℕ → ℕ → ℕ → FlatState
write rights f p l at count =
    if not (has_bit rights.lines l) then answered f p not_owned
    else if nat_lt 64 count then answered f p too_long
    else written f p l (bytes_from (seen (process_at f p).bytes f.segments p) at count)

-- the kernel call of process p, by its number: exit, acquire, release, read, write, self, commit and yield
unfoldable pub kernel_call : Rights → List LineInput → FlatState → ℕ → ℕ → Result FlatState Waits
kernel_call rights inputs f p number =
    if number == 0 then Ok (ended f p (Exited (argument f p 10)))
    else if number == 1 then acquire rights f p (argument f p 10)
    else if number == 2 then Ok (release f p (argument f p 10))
    else if number == 3 then read rights inputs f p (argument f p 10)
    else if number == 4 then Ok (write rights f p (argument f p 10) (argument f p 11) (argument f p 12))
    else if number == 5 then Ok (answered f p p)
    else if number == 6 || number == 7 then Ok (answered f p 0)
    else Ok (answered f p no_such_call)
