-- The memory that a process sees: its private bytes from address 0 on, and each segment s that it holds from address
-- 0x40000000 + 0x10000 * s on. Every other address is outside.
use Rattle.std.specs.Prelude.{ℕ, zero, suc, ◌+◌, ◌-◌, ◌/◌, ◌%◌, ◌^◌, Bool, false, ◌==◌, if◌then◌else◌, nat_lt, List, [], ◌∷◌, ◌++◌, Option, Some, None, option_map, slice_get, slice_set, slice_index_or}
use Rattle.std.specs.Option.{option_and_then}
use Rattle.std.specs.Int.{byte_at}
use Rattle.seq_words.specs.declared.names.Pid.{Pid}
use Rattle.seq_isa.specs.Meaning.{Bytes}
use Rattle.seq_rv32.specs.declared.port.Admit.{Admit}
use Rattle.seq_rv32.specs.declared.port.Admit.TheVariants.{Fits, Outside}
use Rattle.seq_rv32.specs.ByteMemory.{bytes_stored}
use Rattle.seq_flat.specs.declared.state.SegmentState.{SegmentState}
use Rattle.seq_flat.specs.State.{no_segment}

-- whether process p is the owner
abbrev pub is_owner : ℕ → Option Pid → Bool
is_owner p (Some q) = q.0 == p
is_owner p None = false

-- the segment of an address from 0x40000000 on, and the place in it
abbrev pub segment_of : ℕ → ℕ
segment_of a = (a - 0x40000000) / 0x10000

abbrev pub offset_of : ℕ → ℕ
offset_of a = (a - 0x40000000) % 0x10000

-- the bytes of a segment, for its owner alone
abbrev pub shared_bytes : ℕ → SegmentState → List ℕ
shared_bytes p s = if is_owner p s.owner then s.bytes else []

-- what process p sees, with these private bytes and among these segments
unfoldable pub seen : List ℕ → List SegmentState → ℕ → Bytes
seen bytes segments p = λ a. if nat_lt a 0x40000000 then slice_get bytes a else slice_get (shared_bytes p (slice_index_or segments (segment_of a) no_segment)) (offset_of a)

-- a store may be made where the bytes that it changes are there
abbrev pub admitted : Option ℕ → Admit
admitted (Some number) = Fits
admitted None = Outside

-- the private bytes and the segments after a store: address, width, value
unfoldable pub bytes_after : List ℕ → ℕ → ℕ → ℕ → List ℕ
bytes_after bytes at width value = if nat_lt at 0x40000000 then bytes_stored bytes at width value else bytes

unfoldable pub segments_after : List SegmentState → ℕ → ℕ → ℕ → List SegmentState
segments_after segments at width value =
    if nat_lt at 0x40000000 then segments
    else (let s = slice_index_or segments (segment_of at) no_segment in slice_set segments (segment_of at) (record s { bytes = bytes_stored s.bytes (offset_of at) width value }))

-- so many bytes from an address on, modulo 2 ^ 32, where all of them are inside
unfoldable pub bytes_from : Bytes → ℕ → ℕ → Option (List ℕ)
bytes_from memory at zero = Some []
bytes_from memory at (suc n) = option_and_then (λ bytes. option_map (λ b. bytes ++ b ∷ []) (memory ((at + n) % 2 ^ 32))) (bytes_from memory at n)
