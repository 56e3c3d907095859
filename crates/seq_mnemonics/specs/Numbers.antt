-- The numbers that stand as operands.
use Rattle.std.specs.Prelude.{ℕ, ℤ, pos, neg_ℤ, Bool, ◌&&◌, nat_lt, if◌then◌else◌, Option, Some, None, List, length, take, drop, codes}
use Rattle.std.specs.List.{list_all}
use Rattle.std.specs.Option.{option_map}
use Rattle.std.specs.Char.{digit_value}
use Rattle.std.specs.Str.{bytes_eq}
use Rattle.std.specs.Str.Parse.{digits_value}
use Rattle.seq_text.specs.Numbers.{number_of}

-- a digit or a letter up to `f`, in either letter case
abbrev pub is_hexadecimal : ℕ → Bool
is_hexadecimal byte = nat_lt (digit_value byte) 16

-- the number that hexadecimal digits write, at least one
unfoldable pub hexadecimal_of : List ℕ → Option ℕ
hexadecimal_of digits = if nat_lt 0 (length digits) && list_all is_hexadecimal digits then Some (digits_value 16 digits) else None

-- `0x` and hexadecimal digits, or a decimal number without leading zeros, which a `-` before it makes negative
unfoldable pub operand_of : List ℕ → Option ℤ
operand_of word =
    if bytes_eq (take 2 word) (codes "0x") then option_map (λ n. pos n) (hexadecimal_of (drop 2 word))
    else if bytes_eq (take 1 word) (codes "-") then option_map (λ n. neg_ℤ (pos n)) (number_of (drop 1 word))
    else option_map (λ n. pos n) (number_of word)
