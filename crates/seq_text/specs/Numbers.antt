-- The numbers that words write.
use Rattle.std.specs.Prelude.{ℕ, ◌^◌, min, Bool, not, ◌&&◌, ◌||◌, ◌==◌, nat_lt, nat_le, if◌then◌else◌, List, length, slice_index, Option, Some, None}
use Rattle.std.specs.List.{list_all}
use Rattle.std.specs.Str.Parse.{digits_value}

abbrev pub is_digit : ℕ → Bool
is_digit byte = nat_le 48 byte && nat_le byte 57

-- decimal digits, at least one, and no 0 before others
abbrev pub is_number : List ℕ → Bool
is_number word = list_all is_digit word && nat_lt 0 (length word) && (nat_lt (length word) 2 || not (slice_index word 0 == 48))

-- the number that a word writes, however large
unfoldable pub number_of : List ℕ → Option ℕ
number_of word = if is_number word then Some (digits_value 10 word) else None

-- a number as it is kept: every number of 64 bits as it is, and a larger one as one that is out of every limit
abbrev pub capped : ℕ → ℕ
capped n = min n (2 ^ 64)
