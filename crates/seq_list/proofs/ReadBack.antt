-- What is printed is read back.
use Rattle.std.proofs.Common.{◌≡◌, ℕ, suc, ◌<◌, ◌^◌, ℤ, pos, negsuc, neg_ℤ, ◌≤ℤ◌, Option, Some, None, refl, sym, subst, arith}
use Rattle.std.specs.Fmt.{signed_decimal}
use Rattle.std.proofs.lemmas.Int.{ints}
use Rattle.seq_isa.specs.Table.{StandsFor}
use Rattle.seq_isa.specs.Decoded.{decode_of}
use Rattle.seq_isa.specs.InRange.{InRange, IsImmediate, IsOffset}
use Rattle.seq_isa.specs.declared.instr.Instr.{Instr}
use Rattle.seq_isa.proofs.Agreed.{listing_is_function}
use Rattle.seq_isa.proofs.Ranges.{ranges_in}
use Rattle.seq_isa.proofs.Words.{one_word}
use Rattle.seq_mnemonics.specs.Statements.{instruction_of}
use Rattle.seq_mnemonics.specs.Registers.{x_name}
use Rattle.seq_mnemonics.specs.Numbers.{operand_of}
use Rattle.seq_mnemonics.specs.declared.statement.Statement.{Statement}
use Rattle.seq_mnemonics.specs.declared.statement.Statement.TheVariants.{Registers, Immediate, Shift, Indirect, Store, Branch, Jump, Upper, Plain}
use Rattle.seq_mnemonics.proofs.Tables.{statements_are_exact, printed_registers}
use Rattle.seq_mnemonics.proofs.Fitting.{ranges_are_exact}
use Rattle.seq_mnemonics.proofs.Numerals.{printed_numbers}
use Rattle.seq_list.specs.Lines.{address, statement_if}
use Rattle.seq_list.specs.Laws.{SaysWord, WordsAreSaid, IsAddress, OperandsAreRead}

-- ---- words

said : (word : ℕ) (s : Statement) (o : Option Instr) → word < 2 ^ 32 → decode_of word ≡ o → statement_if o ≡ Some s → SaysWord word s
said word s None small d e = absurd cc
said word s (Some i) small d e =
    let same : instruction_of s ≡ i = (statements_are_exact i s).0 e in
    let stands : StandsFor word i = (listing_is_function word i).1 d in
    let there : StandsFor word (instruction_of s) = subst (StandsFor word) (sym same) stands in
    record {
      fits = (ranges_are_exact s).1 (subst InRange (sym same) (ranges_in word small i stands));
      only = record { small = small; stands = there; only = λ v lt other. one_word v word (instruction_of s) lt small other there };
    }

pub words_are_said : WordsAreSaid
words_are_said word s small e = said word s (decode_of word) small refl e

-- ---- operands

-- a signed number within limits of 63 bits
signed_read : (z : ℤ) (low high : ℕ) → low < 2 ^ 63 → high < 2 ^ 63 → neg_ℤ (pos low) ≤ℤ z → z ≤ℤ pos high → operand_of (signed_decimal z) ≡ Some z
signed_read (pos n) low high l h below above =
    let small : n < 2 ^ 64 = grind (arith, ints, above) in
    printed_numbers.naturals n small
signed_read (negsuc n) low high l h below above =
    let small : suc n < 2 ^ 64 = grind (arith, ints, below) in
    printed_numbers.negatives n small

immediate_read : (z : ℤ) → IsImmediate z → operand_of (signed_decimal z) ≡ Some z
immediate_read z h = signed_read z 2048 2047 (omega arith) (omega arith) h.low h.high

branch_read : (z : ℤ) → IsOffset 4096 z → operand_of (signed_decimal z) ≡ Some z
branch_read z h = signed_read z 4096 4094 (omega arith) (omega arith) h.low h.high

jump_read : (z : ℤ) → IsOffset 1048576 z → operand_of (signed_decimal z) ≡ Some z
jump_read z h = signed_read z 1048576 1048574 (omega arith) (omega arith) h.low h.high

address_read : (rs1 : ℕ) (imm : ℤ) → rs1 < 32 → IsImmediate imm → IsAddress (address rs1 imm) rs1 imm
address_read rs1 imm lt h = record {
  number = signed_decimal imm;
  register = x_name rs1;
  parts = refl;
  number_is = immediate_read imm h;
  register_is = printed_registers rs1 lt;
}

pub operands_are_read : OperandsAreRead
operands_are_read (Registers name rd rs1 rs2) h = (printed_registers rd h.0, printed_registers rs1 h.1, printed_registers rs2 h.2)
operands_are_read (Immediate name rd rs1 imm) h = (printed_registers rd h.0, printed_registers rs1 h.1, immediate_read imm h.2)
operands_are_read (Shift name rd rs1 amount) h =
    let small : amount < 2 ^ 64 = omega (arith, h.2) in
    (printed_registers rd h.0, printed_registers rs1 h.1, printed_numbers.naturals amount small)
operands_are_read (Indirect name rd rs1 imm) h = (printed_registers rd h.0, address_read rs1 imm h.1 h.2)
operands_are_read (Store name rs1 rs2 imm) h = (printed_registers rs2 h.1, address_read rs1 imm h.0 h.2)
operands_are_read (Branch name rs1 rs2 offset) h = (printed_registers rs1 h.0, printed_registers rs2 h.1, branch_read offset h.2)
operands_are_read (Jump rd offset) h = (printed_registers rd h.0, jump_read offset h.1)
operands_are_read (Upper name rd imm) h =
    let small : imm < 2 ^ 64 = omega (arith, h.1) in
    (printed_registers rd h.0, printed_numbers.hexadecimals imm small)
operands_are_read (Plain name) h = tt
