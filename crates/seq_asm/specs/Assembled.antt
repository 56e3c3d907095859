-- The image that a source makes.
use Rattle.std.specs.Prelude.{◌≡◌, ℕ, ℤ, pos, ◌-ℤ◌, Option, Some, None, List, [], ◌∷◌, ◌++◌, replicate, reverse}
use Rattle.byteorder.specs.Endian.{little_bytes}
use Rattle.seq_text.specs.Lines.{lines_of}
use Rattle.seq_isa.specs.declared.instr.Instr.{Instr}
use Rattle.seq_isa.specs.declared.instr.Instr.TheVariants.{Jal}
use Rattle.seq_isa.specs.Laws.{IsOnlyWord}
use Rattle.seq_loader.specs.declared.image.Image.{Image}
use Rattle.seq_mnemonics.specs.Statements.{instruction_of, branch_instruction}
use Rattle.seq_source.specs.declared.items.Item.TheVariants.{Instruction, Branch, Jump, Word, Byte, Space, Align, Entry, Size}
use Rattle.seq_source.specs.declared.items.Said.{Said}
use Rattle.seq_source.specs.declared.items.Said.TheVariants.{Nothing, UnknownWord, BadOperands, OutOfRange, Says}
use Rattle.seq_asm.specs.Lines.{said_in, named_in, length_at, end_of, labels_of, address_in, entry_in, size_in}
use Rattle.seq_asm.specs.Rules.{size_of, entry_of}

-- the four bytes of the only word that stands for an instruction, the lowest first
abbrev pub IsWordOf : Instr → List ℕ → Type 0
IsWordOf i piece = (w : ℕ) × IsOnlyWord w i × (piece ≡ little_bytes 4 w)

-- the same of an instruction whose offset leads from an address to a label's, if that label is there
abbrev pub IsAimed : (ℤ → Instr) → ℕ → Option ℕ → List ℕ → Type 0
IsAimed aimed at None piece = ⊥
IsAimed aimed at (Some address) piece = IsWordOf (aimed (pos address -ℤ pos at)) piece

-- The bytes that a line makes at an address; `target` is that of the label that it names. A line that violates a rule makes none.
abbrev pub IsPiece : ℕ → Option ℕ → Said → List ℕ → Type 0
IsPiece at target (Says (Instruction s)) piece = IsWordOf (instruction_of s) piece
IsPiece at target (Says (Branch name rs1 rs2)) piece = IsAimed (λ offset. branch_instruction name rs1 rs2 offset) at target piece
IsPiece at target (Says (Jump rd)) piece = IsAimed (λ offset. Jal rd offset) at target piece
IsPiece at target (Says (Word n)) piece = piece ≡ little_bytes 4 n
IsPiece at target (Says (Byte n)) piece = piece ≡ n ∷ []
IsPiece at target (Says (Space n)) piece = piece ≡ replicate n 0
IsPiece at target (Says Align) piece = piece ≡ replicate (length_at at (Says Align)) 0
IsPiece at target (Says Entry) piece = piece ≡ []
IsPiece at target (Says (Size n)) piece = piece ≡ []
IsPiece at target Nothing piece = piece ≡ []
IsPiece at target UnknownWord piece = piece ≡ []
IsPiece at target BadOperands piece = piece ≡ []
IsPiece at target OutOfRange piece = piece ≡ []

-- the bytes of lines behind others, side by side, where these are the labels of the whole source
unfoldable pub AreBytes : List (List ℕ × ℕ) → List (List ℕ) → List (List ℕ) → List ℕ → Type 0
AreBytes labels before [] bytes = bytes ≡ []
AreBytes labels before (line ∷ lines) bytes =
    (piece : List ℕ) × (rest : List ℕ) × IsPiece (end_of before) (address_in labels (named_in line)) (said_in line) piece × AreBytes labels (line ∷ before) lines rest × (bytes ≡ piece ++ rest)

-- the image of a source with these lines
pub record IsImageOf (lines : List (List ℕ)) (i : Image) : Type 0 where
  pub size : i.size ≡ size_of (end_of (reverse lines)) (size_in (reverse lines))
  pub entry : i.entry ≡ entry_of (labels_of (reverse lines)) (entry_in (reverse lines))
  pub bytes : AreBytes (labels_of (reverse lines)) [] lines i.bytes

-- the image that a text makes
abbrev pub Makes : List ℕ → Image → Type 0
Makes text i = IsImageOf (lines_of text) i
