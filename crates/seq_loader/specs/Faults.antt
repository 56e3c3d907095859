-- The first rule of the grammar that a file violates, with its place in bytes from 0.
use Rattle.std.specs.Prelude.{ℕ, ◌+◌, ◌%◌, Bool, not, ◌&&◌, ◌==◌, nat_lt, nat_le, if◌then◌else◌, List, length, Option, Some, None}
use Rattle.std.specs.List.{position_from, zip}
use Rattle.byteorder.specs.Endian.{little_from}
use Rattle.seq_loader.specs.Image.{mark}

-- the first of the first four bytes, of those that are there, that isn't the mark's
abbrev pub wrong_byte : List ℕ → Option ℕ
wrong_byte file = position_from (λ pair. not (pair.0 == pair.1)) 0 (zip file mark)

-- the number in the four bytes from this place
abbrev pub number_at : List ℕ → ℕ → ℕ
number_at file place = little_from place 4 file

-- the fields of the header
abbrev pub size_of : List ℕ → ℕ
size_of file = number_at file 4

abbrev pub length_of : List ℕ → ℕ
length_of file = number_at file 8

abbrev pub entry_of : List ℕ → ℕ
entry_of file = number_at file 12

-- a multiple of 32 from 32 to 65,536
abbrev pub is_size : ℕ → Bool
is_size n = nat_le 32 n && nat_le n 65536 && (n % 32 == 0)

-- a multiple of four below the size
abbrev pub is_entry : ℕ → ℕ → Bool
is_entry size n = (n % 4 == 0) && nat_lt n size

-- The rules behind the mark, in the order of the fields: place and number of the first that is violated.
abbrev pub fault_behind_mark : List ℕ → Option (ℕ × ℕ)
fault_behind_mark file =
    if nat_lt (length file) 16 then Some (length file, 21)
    else if not (is_size (size_of file)) then Some (4, 22)
    else if nat_lt (size_of file) (length_of file) then Some (8, 23)
    else if not (is_entry (size_of file) (entry_of file)) then Some (12, 24)
    else if nat_lt (length file) (16 + length_of file) then Some (length file, 21)
    else if nat_lt (16 + length_of file) (length file) then Some (16 + length_of file, 25)
    else None

abbrev pub fault_after : Option ℕ → List ℕ → Option (ℕ × ℕ)
fault_after (Some place) file = Some (place, 20)
fault_after None file = fault_behind_mark file

-- place and number of the first rule that is violated
abbrev pub first_fault : List ℕ → Option (ℕ × ℕ)
first_fault file = fault_after (wrong_byte file) file
