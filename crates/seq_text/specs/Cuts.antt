-- What is left of a text behind a byte at which it was cut.
use Rattle.std.specs.Prelude.{ℕ, ◌+◌, ◌==◌, Option, Some, None, List, [], length}
use Rattle.std.specs.List.{slice_split}

-- the parts between such bytes that are left behind one, if there is one
abbrev pub parts_behind : ℕ → Option (List ℕ) → List (List ℕ)
parts_behind byte None = []
parts_behind byte (Some rest) = slice_split (λ b. b == byte) rest

-- how many bytes are left, that one among them: none where there is no such byte
abbrev pub left : Option (List ℕ) → ℕ
left None = 0
left (Some rest) = length rest + 1
