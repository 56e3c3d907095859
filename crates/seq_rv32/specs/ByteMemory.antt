-- A memory that is a list of bytes.
use Rattle.std.specs.Prelude.{ℕ, zero, suc, slice_set, ◌+◌, nat_le, if◌then◌else◌, List, length}
use Rattle.std.specs.Int.{byte_at}
use Rattle.seq_rv32.specs.declared.port.Admit.{Admit}
use Rattle.seq_rv32.specs.declared.port.Admit.TheVariants.{Fits, Outside}

-- a store fits where all its bytes are in the list
abbrev pub admission_of : List ℕ → ℕ → ℕ → Admit
admission_of bytes at width = if nat_le (at + width) (length bytes) then Fits else Outside

-- the list after so many low bytes of a number were put at a place, from the lowest on
unfoldable pub bytes_stored : List ℕ → ℕ → ℕ → ℕ → List ℕ
bytes_stored xs at zero value = xs
bytes_stored xs at (suc width) value = slice_set (bytes_stored xs at width value) (at + width) (byte_at width value)
