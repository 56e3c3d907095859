-- The texts of a listing.
use Rattle.std.specs.Prelude.{ℕ, zero, suc, ◌/◌, ◌%◌, ◌^◌, false, ℤ, List, [], ◌∷◌, ◌++◌, Option, Some, None, codes, decimal}
use Rattle.std.specs.Fmt.{digit_glyph, digits, signed_decimal}
use Rattle.seq_isa.specs.Decoded.{decode_of}
use Rattle.seq_isa.specs.declared.instr.Instr.{Instr}
use Rattle.seq_mnemonics.specs.Names.{text_of}
use Rattle.seq_mnemonics.specs.Statements.{name_of, statement_of}
use Rattle.seq_mnemonics.specs.Registers.{x_name}
use Rattle.seq_mnemonics.specs.declared.statement.Statement.{Statement}
use Rattle.seq_mnemonics.specs.declared.statement.Statement.TheVariants.{Registers, Immediate, Shift, Indirect, Store, Branch, Jump, Upper, Plain}

-- so many hexadecimal digits in lower case, the highest first
unfoldable pub hexadecimal : ℕ → ℕ → List ℕ
hexadecimal zero n = []
hexadecimal (suc count) n = digit_glyph false (n / 16 ^ count % 16) ∷ hexadecimal count n

-- an address as an operand: imm(rs1)
abbrev pub address : ℕ → ℤ → List ℕ
address rs1 imm = signed_decimal imm ++ codes "(" ++ x_name rs1 ++ codes ")"

-- a statement's operands: registers by their x names, numbers in decimal, the upper 20 bits in hexadecimal without leading zeros
abbrev pub operands_of : Statement → List (List ℕ)
operands_of (Registers name rd rs1 rs2) = x_name rd ∷ x_name rs1 ∷ x_name rs2 ∷ []
operands_of (Immediate name rd rs1 imm) = x_name rd ∷ x_name rs1 ∷ signed_decimal imm ∷ []
operands_of (Shift name rd rs1 amount) = x_name rd ∷ x_name rs1 ∷ decimal amount ∷ []
operands_of (Indirect name rd rs1 imm) = x_name rd ∷ address rs1 imm ∷ []
operands_of (Store name rs1 rs2 imm) = x_name rs2 ∷ address rs1 imm ∷ []
operands_of (Branch name rs1 rs2 offset) = x_name rs1 ∷ x_name rs2 ∷ signed_decimal offset ∷ []
operands_of (Jump rd offset) = x_name rd ∷ signed_decimal offset ∷ []
operands_of (Upper name rd imm) = x_name rd ∷ (codes "0x" ++ digits 16 false imm) ∷ []
operands_of (Plain name) = []

-- operands behind another one: a comma and a space before each
abbrev pub behind_comma : List (List ℕ) → List ℕ
behind_comma [] = []
behind_comma (operand ∷ more) = codes ", " ++ operand ++ behind_comma more

-- operands behind a name: a space before the first
abbrev pub behind_name : List (List ℕ) → List ℕ
behind_name [] = []
behind_name (operand ∷ more) = codes " " ++ operand ++ behind_comma more

-- a name with its operands
abbrev pub statement_text : Statement → List ℕ
statement_text s = text_of (name_of s) ++ behind_name (operands_of s)

-- the statement of the instruction that a word stands for
abbrev pub statement_if : Option Instr → Option Statement
statement_if None = None
statement_if (Some i) = statement_of i

-- a statement, or a word's value where there is none
abbrev pub text_if : ℕ → Option Statement → List ℕ
text_if word None = codes ".word 0x" ++ hexadecimal 8 word
text_if word (Some s) = statement_text s

-- the text of a word
unfoldable pub word_text : ℕ → List ℕ
word_text word = text_if word (statement_if (decode_of word))

-- the line of a word, and that of a byte that is left over: address, value and text
abbrev pub word_line : ℕ → ℕ → List ℕ
word_line at word = hexadecimal 8 at ++ codes " " ++ hexadecimal 8 word ++ codes " " ++ word_text word ++ codes "\n"

abbrev pub byte_line : ℕ → ℕ → List ℕ
byte_line at byte = hexadecimal 8 at ++ codes " " ++ hexadecimal 2 byte ++ codes " .byte 0x" ++ hexadecimal 2 byte ++ codes "\n"
