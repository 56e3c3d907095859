-- The first rule that a source violates, with its line from 1.
use Rattle.std.specs.Prelude.{ℕ, ◌+◌, ◌*◌, ◌/◌, ◌%◌, min, pos, ◌-ℤ◌, Bool, true, false, not, ◌&&◌, ◌||◌, ◌==◌, nat_lt, nat_le, if◌then◌else◌, Option, Some, None, List, [], ◌∷◌, reverse}
use Rattle.std.specs.Option.{is_some, option_or}
use Rattle.seq_text.specs.Lines.{lines_of}
use Rattle.seq_loader.specs.Faults.{is_size, is_entry}
use Rattle.seq_source.specs.declared.items.Item.TheVariants.{Instruction, Branch, Jump, Entry, Size}
use Rattle.seq_source.specs.declared.items.Said.{Said}
use Rattle.seq_source.specs.declared.items.Said.TheVariants.{Nothing, UnknownWord, BadOperands, OutOfRange, Says}
use Rattle.seq_source.specs.Cuts.{label_of}
use Rattle.seq_source.specs.Numbers.{offset_of}
use Rattle.seq_asm.specs.Lines.{said_in, named_in, length_at, end_of, labels_of, address_in, place_of, entry_in, size_in}

-- ---- the rules of one line, behind the lines before it

-- Rule 50: an unknown word. 51: operands that aren't of its form. 52: a value out of range.
abbrev pub said_rule : Said → Option ℕ
said_rule Nothing = None
said_rule UnknownWord = Some 50
said_rule BadOperands = Some 51
said_rule OutOfRange = Some 52
said_rule (Says item) = None

-- the label stands already
abbrev pub stands : List (List ℕ × ℕ) → Option (List ℕ) → Bool
stands labels None = false
stands labels (Some name) = is_some (address_in labels name)

-- an entry or a size is said already
abbrev pub is_second : Bool → Bool → Said → Bool
is_second entry size (Says Entry) = entry
is_second entry size (Says (Size n)) = size
is_second entry size _ = false

abbrev pub is_instruction : Said → Bool
is_instruction (Says (Instruction s)) = true
is_instruction (Says (Branch name rs1 rs2)) = true
is_instruction (Says (Jump rd)) = true
is_instruction _ = false

-- an instruction not at a multiple of four, or bytes that end above 65,536
abbrev pub is_misplaced : ℕ → Said → Bool
is_misplaced at said = is_instruction said && not (at % 4 == 0) || nat_lt 65536 (at + length_at at said)

-- Rule 53: a label that stands already, a second entry or size. 55: a line that is misplaced.
abbrev pub place_rule : ℕ → Bool → Bool → Said → Option ℕ
place_rule at stands second said =
    if stands || second then Some 53
    else if is_misplaced at said then Some 55
    else None

-- the least rule that a line violates
unfoldable pub line_rule : List (List ℕ) → List ℕ → Option ℕ
line_rule before line =
    option_or (said_rule (said_in line)) (place_rule (end_of before) (stands (labels_of before) (label_of line)) (is_second (is_some (entry_in before)) (is_some (size_in before)) (said_in line)) (said_in line))

-- a violated rule at this place, or else what comes later
abbrev pub fault_or : ℕ → Option ℕ → Option (ℕ × ℕ) → Option (ℕ × ℕ)
fault_or place (Some rule) later = Some (place, rule)
fault_or place None later = later

-- the first fault of lines behind others, line by line
unfoldable pub fault_from : List (List ℕ) → List (List ℕ) → Option (ℕ × ℕ)
fault_from before [] = None
fault_from before (line ∷ lines) = fault_or (place_of before) (line_rule before line) (fault_from (line ∷ before) lines)

-- ---- what is tried after all lines

-- rule 55: what is said as the size is no private size, or is below the length
abbrev pub size_fault : ℕ → Option (ℕ × ℕ) → Option (ℕ × ℕ)
size_fault end None = None
size_fault end (Some (place, size)) = if is_size size && nat_le end size then None else Some (place, 55)

-- Rule 54: the label is missing. 52: the offset to it is odd or out of range.
abbrev pub target_rule : ℕ → ℕ → Option ℕ → Option ℕ
target_rule half at None = Some 54
target_rule half at (Some address) = if is_some (offset_of half (pos address -ℤ pos at)) then None else Some 52

abbrev pub entry_rule : Option ℕ → Option ℕ
entry_rule None = Some 54
entry_rule (Some address) = None

-- the rule that a line's label violates at an address
abbrev pub name_rule : ℕ → Option ℕ → Said → Option ℕ
name_rule at target (Says (Branch name rs1 rs2)) = target_rule 4096 at target
name_rule at target (Says (Jump rd)) = target_rule 1048576 at target
name_rule at target (Says Entry) = entry_rule target
name_rule at target _ = None

-- the first fault of the labels that lines name, line by line, where these are the labels of the whole source
unfoldable pub name_fault_from : List (List ℕ × ℕ) → List (List ℕ) → List (List ℕ) → Option (ℕ × ℕ)
name_fault_from labels before [] = None
name_fault_from labels before (line ∷ lines) =
    fault_or (place_of before) (name_rule (end_of before) (address_in labels (named_in line)) (said_in line)) (name_fault_from labels (line ∷ before) lines)

-- the private size: the one that is said, and else the length rounded up to a multiple of 32, and 1,024, but at most 65,536
abbrev pub size_of : ℕ → Option (ℕ × ℕ) → ℕ
size_of end None = min ((end + 31) / 32 * 32 + 1024) 65536
size_of end (Some (place, size)) = size

-- the entry: the address of its label, and 0 where none is said
abbrev pub address_or : Option ℕ → ℕ
address_or None = 0
address_or (Some address) = address

abbrev pub entry_of : List (List ℕ × ℕ) → Option (ℕ × List ℕ) → ℕ
entry_of labels None = 0
entry_of labels (Some (place, name)) = address_or (address_in labels name)

-- rule 56: the entry isn't a multiple of four below the size
abbrev pub entry_fault : List (List ℕ × ℕ) → ℕ → Option (ℕ × List ℕ) → Option (ℕ × ℕ)
entry_fault labels size None = None
entry_fault labels size (Some (place, name)) = if is_entry size (address_or (address_in labels name)) then None else Some (place, 56)

-- ---- a whole text

-- the first fault of the three things that are tried after all lines
abbrev pub late_fault : List (List ℕ) → Option (ℕ × ℕ)
late_fault lines =
    let all = reverse lines in
    option_or (size_fault (end_of all) (size_in all))
    (option_or (name_fault_from (labels_of all) [] lines)
    (entry_fault (labels_of all) (size_of (end_of all) (size_in all)) (entry_in all)))

-- the first violated rule of lines, with its place
abbrev pub fault_of : List (List ℕ) → Option (ℕ × ℕ)
fault_of lines = option_or (fault_from [] lines) (late_fault lines)

-- the first violated rule of a text, with its place
abbrev pub first_fault : List ℕ → Option (ℕ × ℕ)
first_fault text = fault_of (lines_of text)
