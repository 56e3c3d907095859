-- The bytes that labels are made of.
use Rattle.std.specs.Prelude.{ℕ, Bool, ◌&&◌, ◌||◌, ◌==◌, nat_lt, nat_le, List, length, slice_index}
use Rattle.std.specs.List.{list_all}
use Rattle.seq_text.specs.Numbers.{is_digit}

-- a letter in either case, or `_`
abbrev pub is_letter : ℕ → Bool
is_letter byte = nat_le 65 byte && nat_le byte 90 || nat_le 97 byte && nat_le byte 122 || (byte == 95)

abbrev pub is_label_byte : ℕ → Bool
is_label_byte byte = is_letter byte || is_digit byte

-- A label begins with a letter or `_`, and goes on with letters, digits and `_`.
unfoldable pub is_label : List ℕ → Bool
is_label name = nat_lt 0 (length name) && is_letter (slice_index name 0) && list_all is_label_byte name
