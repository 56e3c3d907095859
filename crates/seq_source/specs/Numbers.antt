-- The numbers of a source.
use Rattle.std.specs.Prelude.{ℕ, ◌-◌, ◌*◌, ◌%◌, ◌^◌, min, ℤ, pos, negsuc, neg_ℤ, nat_abs, int_le, int_lt, suc, Bool, ◌&&◌, ◌==◌, nat_lt, if◌then◌else◌, Option, Some, None, List}
use Rattle.std.specs.Option.{option_map}
use Rattle.seq_mnemonics.specs.Numbers.{operand_of}

-- a number as it is kept: a larger one than 2 ^ 40 as 2 ^ 40, which is out of every range
abbrev pub kept : ℕ → ℕ
kept n = min n (2 ^ 40)

-- the same of a number with a sign
abbrev pub kept_of : ℤ → ℤ
kept_of (pos n) = pos (kept n)
kept_of (negsuc n) = neg_ℤ (pos (kept (suc n)))

-- the number that a word is as an operand, as it is kept
unfoldable pub number_written : List ℕ → Option ℤ
number_written word = option_map kept_of (operand_of word)

-- ---- ranges: `immediate_of`, `offset_of` and `below` test what `IsImmediate`, `IsOffset` and `IsBelow` say

-- from -half to half - 1
abbrev pub fits_in : ℕ → ℤ → Bool
fits_in half z = int_le (neg_ℤ (pos half)) z && int_lt z (pos half)

abbrev pub is_even : ℤ → Bool
is_even z = nat_abs z % 2 == 0

-- an immediate of 12 bits, from -2048 to 2047
unfoldable pub immediate_of : ℤ → Option ℤ
immediate_of z = if fits_in 2048 z then Some z else None

-- an even offset from -half to half - 2
unfoldable pub offset_of : ℕ → ℤ → Option ℤ
offset_of half z = if fits_in half z && is_even z then Some z else None

-- a number from 0 that is below a bound
unfoldable pub below : ℕ → ℤ → Option ℕ
below bound (pos n) = if nat_lt n bound then Some n else None
below bound (negsuc n) = None

-- a number from -half to 2 * half - 1, in two's complement; -n - 1 is at least -half where n is below half
unfoldable pub wrapped : ℕ → ℤ → Option ℕ
wrapped half (pos n) = if nat_lt n (2 * half) then Some n else None
wrapped half (negsuc n) = if nat_lt n half then Some (2 * half - suc n) else None
