-- What the texts of a listing say.
use Rattle.std.specs.Prelude.{◌≡◌, ℕ, ◌<◌, ◌^◌, ℤ, pos, List, [], ◌∷◌, ◌++◌, Some, codes}
use Rattle.seq_isa.specs.Decoded.{decode_of}
use Rattle.seq_isa.specs.Laws.{IsOnlyWord}
use Rattle.seq_mnemonics.specs.Statements.{instruction_of}
use Rattle.seq_mnemonics.specs.Registers.{register_of}
use Rattle.seq_mnemonics.specs.Ranges.{OperandsFit}
use Rattle.seq_mnemonics.specs.Numbers.{operand_of}
use Rattle.seq_mnemonics.specs.declared.statement.Statement.{Statement}
use Rattle.seq_mnemonics.specs.declared.statement.Statement.TheVariants.{Registers, Immediate, Shift, Indirect, Store, Branch, Jump, Upper, Plain}
use Rattle.seq_list.specs.Lines.{operands_of, statement_if}

-- a statement whose operands are in range, and whose instruction has this word alone
pub record SaysWord (word : ℕ) (s : Statement) : Type 0 where
  pub fits : OperandsFit s
  pub only : IsOnlyWord word (instruction_of s)

-- a word that is printed as a statement is the only word of what the statement says
abbrev pub WordsAreSaid : Type 0
WordsAreSaid = (word : ℕ) (s : Statement) → word < 2 ^ 32 → statement_if (decode_of word) ≡ Some s → SaysWord word s

-- an operand that is read as an address
pub record IsAddress (operand : List ℕ) (rs1 : ℕ) (imm : ℤ) : Type 0 where
  pub number : List ℕ
  pub register : List ℕ
  pub parts : operand ≡ number ++ codes "(" ++ register ++ codes ")"
  pub number_is : operand_of number ≡ Some imm
  pub register_is : register_of register ≡ Some rs1

-- operands that are read as those of a statement, by its form
abbrev pub ReadAs : List (List ℕ) → Statement → Type 0
ReadAs (a ∷ b ∷ c ∷ []) (Registers name rd rs1 rs2) = (register_of a ≡ Some rd) × (register_of b ≡ Some rs1) × (register_of c ≡ Some rs2)
ReadAs (a ∷ b ∷ c ∷ []) (Immediate name rd rs1 imm) = (register_of a ≡ Some rd) × (register_of b ≡ Some rs1) × (operand_of c ≡ Some imm)
ReadAs (a ∷ b ∷ c ∷ []) (Shift name rd rs1 amount) = (register_of a ≡ Some rd) × (register_of b ≡ Some rs1) × (operand_of c ≡ Some (pos amount))
ReadAs (a ∷ b ∷ []) (Indirect name rd rs1 imm) = (register_of a ≡ Some rd) × IsAddress b rs1 imm
ReadAs (a ∷ b ∷ []) (Store name rs1 rs2 imm) = (register_of a ≡ Some rs2) × IsAddress b rs1 imm
ReadAs (a ∷ b ∷ c ∷ []) (Branch name rs1 rs2 offset) = (register_of a ≡ Some rs1) × (register_of b ≡ Some rs2) × (operand_of c ≡ Some offset)
ReadAs (a ∷ b ∷ []) (Jump rd offset) = (register_of a ≡ Some rd) × (operand_of b ≡ Some offset)
ReadAs (a ∷ b ∷ []) (Upper name rd imm) = (register_of a ≡ Some rd) × (operand_of b ≡ Some (pos imm))
ReadAs [] (Plain name) = Unit {0}
ReadAs operands s = ⊥

-- the printed operands of a statement are read as its operands
abbrev pub OperandsAreRead : Type 0
OperandsAreRead = (s : Statement) → OperandsFit s → ReadAs (operands_of s) s
