-- The numbers of a schedule: how often, which line, which register, and what hexadecimal digits write.
use Rattle.std.specs.Prelude.{ℕ, ◌+◌, ◌-◌, ◌*◌, ◌/◌, ◌%◌, min, Bool, ◌&&◌, ◌==◌, nat_le, nat_lt, if◌then◌else◌, slice_index, Option, Some, None, List, length, map, fold}
use Rattle.std.specs.List.{list_all, range_with_len}
use Rattle.std.specs.Option.{option_map}
use Rattle.seq_words.specs.declared.names.LineNo.{LineNo}
use Rattle.seq_text.specs.Numbers.{number_of}

-- a number that lies between two others, both included
abbrev pub if_within : ℕ → ℕ → Option ℕ → Option ℕ
if_within least most None = None
if_within least most (Some n) = if nat_le least n && nat_le n most then Some n else None

-- the number that a word writes, where it lies between these
unfoldable pub number_within : ℕ → ℕ → List ℕ → Option ℕ
number_within least most word = if_within least most (number_of word)

-- The line of a number. No machine has a line 255, and every larger number stands for it.
abbrev pub line_numbered : ℕ → LineNo
line_numbered n = record { 0 = min n 255 }

-- the line that a word names
unfoldable pub line_named : List ℕ → Option LineNo
line_named word = option_map line_numbered (number_of word)

-- the value of a hexadecimal digit in either letter case, and 16 for any other byte
unfoldable pub hex_value : ℕ → ℕ
hex_value byte =
    if nat_le 48 byte && nat_le byte 57 then byte - 48
    else if nat_le 65 byte && nat_le byte 70 then byte - 55
    else if nat_le 97 byte && nat_le byte 102 then byte - 87
    else 16

-- all are hexadecimal digits
abbrev pub is_hex : List ℕ → Bool
is_hex word = list_all (λ byte. nat_lt (hex_value byte) 16) word

-- the number that hexadecimal digits write
unfoldable pub hex_number : List ℕ → ℕ
hex_number word = fold (λ n byte. n * 16 + hex_value byte) 0 word

-- a mask behind its `0x`: 1 to 8 digits, not all of them 0
unfoldable pub mask_of : List ℕ → Option ℕ
mask_of digits =
    if nat_le 1 (length digits) && nat_le (length digits) 8 && is_hex digits
    then (if hex_number digits == 0 then None else Some (hex_number digits)) else None

-- the byte that two digits from a place write
abbrev pub hex_byte : List ℕ → ℕ → ℕ
hex_byte word at = 16 * hex_value (slice_index word at) + hex_value (slice_index word (at + 1))

-- the bytes that an even number of digits writes, two each, at least one
unfoldable pub bytes_of : List ℕ → Option (List ℕ)
bytes_of word =
    if nat_le 2 (length word) && (length word % 2 == 0) && is_hex word
    then Some (map (λ k. hex_byte word (2 * k)) (range_with_len 0 (length word / 2))) else None
