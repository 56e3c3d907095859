-- The listing of an image's bytes.
use Rattle.std.specs.Prelude.{ℕ, ◌+◌, List, [], ◌∷◌, ◌++◌}
use Rattle.byteorder.specs.Endian.{little_number}
use Rattle.seq_list.specs.Lines.{word_line, byte_line}

-- a line for each byte, from an address on
abbrev pub left_over : ℕ → List ℕ → List ℕ
left_over at [] = []
left_over at (byte ∷ rest) = byte_line at byte ++ left_over (at + 1) rest

-- from an address on: a line for each whole four bytes, and then one for each byte that is left over
unfoldable pub listing : ℕ → List ℕ → List ℕ
listing at (a ∷ b ∷ c ∷ d ∷ rest) = word_line at (little_number 4 (a ∷ b ∷ c ∷ d ∷ [])) ++ listing (at + 4) rest
listing at bytes = left_over at bytes
