-- The lines of a text.
use Rattle.std.specs.Prelude.{ℕ, List}
use Rattle.std.specs.Str.Lines.{lines}

-- Each line ends before a byte 0a, and the last one perhaps without it. A byte 0d directly before a 0a belongs to no line. A text without bytes has none.
unfoldable pub lines_of : List ℕ → List (List ℕ)
lines_of text = lines text
