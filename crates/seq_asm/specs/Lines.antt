-- The lines of a source, and what stands before each.
use Rattle.std.specs.Prelude.{ℕ, ◌+◌, ◌-◌, ◌%◌, Option, Some, None, List, [], ◌∷◌, ◌++◌, length}
use Rattle.std.specs.Map.{lookup}
use Rattle.std.specs.Str.{bytes_eq}
use Rattle.seq_source.specs.declared.items.Item.TheVariants.{Instruction, Branch, Jump, Word, Byte, Space, Align, Entry, Size}
use Rattle.seq_source.specs.declared.items.Said.{Said}
use Rattle.seq_source.specs.declared.items.Said.TheVariants.{Nothing, UnknownWord, BadOperands, OutOfRange, Says}
use Rattle.seq_source.specs.Cuts.{label_of, word_of, tail_of}
use Rattle.seq_source.specs.Said.{said, last_operand}

-- what a line says behind its label
unfoldable pub said_in : List ℕ → Said
said_in line = said (word_of line) (tail_of line)

-- the last operand, which is a label where the line is a branch or `jal` to a label, or an `.entry`
unfoldable pub named_in : List ℕ → List ℕ
named_in line = last_operand (tail_of line)

-- how many bytes it makes at an address
unfoldable pub length_at : ℕ → Said → ℕ
length_at at (Says (Instruction s)) = 4
length_at at (Says (Branch name rs1 rs2)) = 4
length_at at (Says (Jump rd)) = 4
length_at at (Says (Word n)) = 4
length_at at (Says (Byte n)) = 1
length_at at (Says (Space n)) = n
length_at at (Says Align) = (4 - at % 4) % 4
length_at at (Says Entry) = 0
length_at at (Says (Size n)) = 0
length_at at Nothing = 0
length_at at UnknownWord = 0
length_at at BadOperands = 0
length_at at OutOfRange = 0

-- ---- lines up to some line, the last one first

-- the address behind them
unfoldable pub end_of : List (List ℕ) → ℕ
end_of [] = 0
end_of (line ∷ before) = end_of before + length_at (end_of before) (said_in line)

-- a line's label with the line's address
abbrev pub labelled : ℕ → Option (List ℕ) → List (List ℕ × ℕ)
labelled at None = []
labelled at (Some name) = (name, at) ∷ []

-- their labels with the addresses
unfoldable pub labels_of : List (List ℕ) → List (List ℕ × ℕ)
labels_of [] = []
labels_of (line ∷ before) = labelled (end_of before) (label_of line) ++ labels_of before

-- the address of a name among such labels
abbrev pub address_in : List (List ℕ × ℕ) → List ℕ → Option ℕ
address_in labels name = lookup (λ key. bytes_eq name key) labels

-- the number of the line behind lines, from 1
abbrev pub place_of : List (List ℕ) → ℕ
place_of before = length before + 1

-- the line that says the entry, with the label that it names
abbrev pub entry_or : ℕ → List ℕ → Said → Option (ℕ × List ℕ) → Option (ℕ × List ℕ)
entry_or place name (Says Entry) earlier = Some (place, name)
entry_or place name _ earlier = earlier

unfoldable pub entry_in : List (List ℕ) → Option (ℕ × List ℕ)
entry_in [] = None
entry_in (line ∷ before) = entry_or (place_of before) (named_in line) (said_in line) (entry_in before)

-- the line that says the private size, with the size that it says
abbrev pub size_or : ℕ → Said → Option (ℕ × ℕ) → Option (ℕ × ℕ)
size_or place (Says (Size n)) earlier = Some (place, n)
size_or place _ earlier = earlier

unfoldable pub size_in : List (List ℕ) → Option (ℕ × ℕ)
size_in [] = None
size_in (line ∷ before) = size_or (place_of before) (said_in line) (size_in before)
