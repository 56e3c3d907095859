-- Rows of the table of kernel calls, on numerals: process 0 is granted segments 0, 1 and 2 of four, and owns line 0.
use Rattle.std.proofs.Common.{◌≡◌, ◌%◌, Bool, true, false, Option, Some, None, [], ◌∷◌, replicate, Ok, Err, refl}
use Rattle.seq_words.specs.declared.names.Pid.{Pid}
use Rattle.seq_flat.specs.declared.inputs.LineInput.{LineInput}
use Rattle.seq_flat.specs.declared.state.End.TheVariants.{Exited}
use Rattle.seq_flat.specs.declared.state.SegmentState.{SegmentState}
use Rattle.seq_flat.specs.declared.state.FlatState.{FlatState}
use Rattle.seq_flat.specs.declared.state.Rights.{Rights}
use Rattle.seq_flat.specs.declared.state.Waits.TheVariants.{Lock, Input, Ended}
use Rattle.seq_flat.specs.State.{no_process, no_line, with_line}
use Rattle.seq_flat.specs.Memory.{seen, bytes_from}
use Rattle.seq_flat.specs.Calls.{answered, ended, acquire, release, read, write, written}
use Rattle.seq_flat.specs.Step.{step_or_wait}

abbrev rights : Rights
rights = record { lines = 1; grants = 7 }

abbrev segment : Option Pid → SegmentState
segment owner = record { bytes = []; owner = owner }

abbrev first : Option Pid
first = Some (record { 0 = 0 })

-- segments 0 to 3 with these owners
abbrev owned : Option Pid → Option Pid → Option Pid → Option Pid → FlatState
owned a b c d = record {
  processes = no_process ∷ no_process ∷ [];
  segments = segment a ∷ segment b ∷ segment c ∷ segment d ∷ [];
  lines = replicate 16 no_line;
}

abbrev free : FlatState
free = owned None None None None

abbrev held : FlatState
held = owned None first None None

acquire_unknown : acquire rights free 0 9 ≡ Ok (answered free 0 0xfffffffd)
unfolding acquire
acquire_unknown = refl

acquire_not_granted : acquire rights free 0 3 ≡ Ok (answered free 0 0xfffffffc)
unfolding acquire
acquire_not_granted = refl

acquire_free : acquire rights free 0 1 ≡ Ok (answered held 0 0)
unfolding acquire
acquire_free = refl

acquire_again : acquire rights held 0 1 ≡ Ok (answered held 0 0xffffffff)
unfolding acquire
acquire_again = refl

acquire_below : acquire rights held 0 0 ≡ Ok (answered held 0 0xfffffffe)
unfolding acquire
acquire_below = refl

acquire_of_another : acquire rights held 1 1 ≡ Err (Lock (record { 0 = 1 }) (record { 0 = 0 }))
unfolding acquire
acquire_of_another = refl

release_free : release held 0 2 ≡ answered held 0 0xffffffff
unfolding release
release_free = refl

release_of_another : release held 1 1 ≡ answered held 1 0xffffffff
unfolding release
release_of_another = refl

release_held : release held 0 1 ≡ answered free 0 0
unfolding release
release_held = refl

-- a line with one byte: closed, or not yet
abbrev line : Bool → LineInput
line closed = record { bytes = 128 ∷ []; closed = closed }

abbrev past : FlatState
past = with_line free 0 (record { read = 1; output = [] })

read_other : read rights (line true ∷ []) free 0 1 ≡ Ok (answered free 0 0xfffffffa)
unfolding read
read_other = refl

read_byte : read rights (line true ∷ []) free 0 0 ≡ Ok (answered past 0 128)
unfolding read
read_byte = refl

read_closed : read rights (line true ∷ []) past 0 0 ≡ Ok (answered past 0 0xffffffff)
unfolding read
read_closed = refl

read_open : read rights (line false ∷ []) past 0 0 ≡ Err (Input (record { 0 = 0 }))
unfolding read
read_open = refl

write_other : write rights free 0 1 0 65 ≡ answered free 0 0xfffffffa
unfolding write
write_other = refl

write_long : write rights free 0 0 0 65 ≡ answered free 0 0xfffffff9
unfolding write
write_long = refl

write_outside : write rights free 0 0 0 1 ≡ answered free 0 0xfffffff8
unfolding write written bytes_from seen no_process
write_outside = refl

-- a write of four bytes in order, from the last two addresses and the first two
four_bytes : bytes_from (λ a. Some (a % 256)) 0xfffffffe 4 ≡ Some (254 ∷ 255 ∷ 0 ∷ 1 ∷ [])
unfolding bytes_from
four_bytes = refl

-- who ends gives up what is held
exit_held : ended held 0 (Exited 7) ≡ record free { processes = record no_process { end = Exited 7 } ∷ no_process ∷ [] }
unfolding ended no_process
exit_held = refl

step_unknown : step_or_wait (rights ∷ []) [] free 2 ≡ Err Ended
unfolding step_or_wait
step_unknown = refl
