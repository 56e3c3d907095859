-- The operands of a line.
use Rattle.std.specs.Prelude.{ℕ, ◌==◌, Option, Some, None, List, [], map}
use Rattle.std.specs.List.{slice_split}
use Rattle.seq_source.specs.Cuts.{without_front}

-- The parts between commas, without the blanks behind each comma. A text without bytes has one, without bytes.
unfoldable pub operands_in : List ℕ → List (List ℕ)
operands_in text = map without_front (slice_split (λ byte. byte == 44) text)

-- the operands that are left behind a comma, if there is one
abbrev pub operands_left : Option (List ℕ) → List (List ℕ)
operands_left None = []
operands_left (Some rest) = operands_in rest
