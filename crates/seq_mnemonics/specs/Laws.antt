-- Laws of the table.
use Rattle.std.specs.Prelude.{◌≡◌, ℕ, suc, ◌<◌, ◌^◌, ◌↔◌, true, false, List, ◌++◌, Some, pos, negsuc, codes, decimal, Bool, ◌&&◌, ◌||◌, ◌==◌, nat_le}
use Rattle.std.specs.List.{list_all}
use Rattle.std.specs.Fmt.{digits, signed_decimal}
use Rattle.seq_isa.specs.InRange.{InRange}
use Rattle.seq_isa.specs.declared.instr.Instr.{Instr}
use Rattle.seq_mnemonics.specs.declared.names.Mnemonic.{Mnemonic}
use Rattle.seq_mnemonics.specs.declared.statement.Statement.{Statement}
use Rattle.seq_mnemonics.specs.Names.{text_of, mnemonic_of}
use Rattle.seq_mnemonics.specs.Statements.{instruction_of, statement_of}
use Rattle.seq_mnemonics.specs.Ranges.{OperandsFit}
use Rattle.seq_mnemonics.specs.Numbers.{operand_of}
use Rattle.seq_mnemonics.specs.Registers.{x_name, has_name, register_of}

-- a word is found as a name exactly where it is that name's text
abbrev pub NamesAreExact : Type 0
NamesAreExact = (word : List ℕ) (m : Mnemonic) → (mnemonic_of word ≡ Some m) ↔ (text_of m ≡ word)

-- an instruction has a statement exactly where that statement stands for it
abbrev pub StatementsAreExact : Type 0
StatementsAreExact = (i : Instr) (s : Statement) → (statement_of i ≡ Some s) ↔ (instruction_of s ≡ i)

-- a word names a register exactly where it is one of that register's names
abbrev pub RegistersAreExact : Type 0
RegistersAreExact = (word : List ℕ) (n : ℕ) → (register_of word ≡ Some n) ↔ ((n < 32) × (has_name n word ≡ true))

-- the name of a register that is printed names it
abbrev pub PrintedRegistersAreRead : Type 0
PrintedRegistersAreRead = (n : ℕ) → n < 32 → register_of (x_name n) ≡ Some n

-- the ranges of a statement's operands are those of its instruction
abbrev pub RangesAreExact : Type 0
RangesAreExact = (s : Statement) → OperandsFit s ↔ InRange (instruction_of s)

-- a number that is printed is read as that number: in decimal, and in hexadecimal behind `0x`
pub record PrintedNumbersAreRead : Type 0 where
  pub naturals : (n : ℕ) → n < 2 ^ 64 → operand_of (decimal n) ≡ Some (pos n)
  pub negatives : (n : ℕ) → suc n < 2 ^ 64 → operand_of (signed_decimal (negsuc n)) ≡ Some (negsuc n)
  pub hexadecimals : (n : ℕ) → n < 2 ^ 64 → operand_of (codes "0x" ++ digits 16 false n) ≡ Some (pos n)

-- a digit, a letter in lower case or `-`, and so none of the bytes that separate the parts of a line
abbrev pub is_plain : ℕ → Bool
is_plain byte = (nat_le 48 byte && nat_le byte 57) || (nat_le 97 byte && nat_le byte 122) || (byte == 45)

-- the printed texts of names, registers and numbers hold such bytes alone
pub record PrintedTextsArePlain : Type 0 where
  pub names : (m : Mnemonic) → list_all is_plain (text_of m) ≡ true
  pub registers : (n : ℕ) → n < 32 → list_all is_plain (x_name n) ≡ true
  pub naturals : (n : ℕ) → n < 2 ^ 64 → list_all is_plain (decimal n) ≡ true
  pub negatives : (n : ℕ) → suc n < 2 ^ 64 → list_all is_plain (signed_decimal (negsuc n)) ≡ true
  pub hexadecimals : (n : ℕ) → n < 2 ^ 64 → list_all is_plain (codes "0x" ++ digits 16 false n) ≡ true
