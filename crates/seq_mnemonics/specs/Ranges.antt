-- The ranges of operands.
use Rattle.std.specs.Prelude.{ℕ, ℤ, pos, ◌<◌, ◌^◌, ◌≤ℤ◌, ◌<ℤ◌}
use Rattle.seq_isa.specs.InRange.{IsImmediate, IsOffset}
use Rattle.seq_mnemonics.specs.declared.statement.Statement.{Statement}
use Rattle.seq_mnemonics.specs.declared.statement.Statement.TheVariants.{Registers, Immediate, Shift, Indirect, Store, Branch, Jump, Upper, Plain}

-- from 0 up to, and without, a bound
pub record IsBelow (bound : ℕ) (z : ℤ) : Type 0 where
  pub low : pos 0 ≤ℤ z
  pub high : z <ℤ pos bound

-- each operand of a statement is in its range
abbrev pub OperandsFit : Statement → Type 0
OperandsFit (Registers name rd rs1 rs2) = (rd < 32) × (rs1 < 32) × (rs2 < 32)
OperandsFit (Immediate name rd rs1 imm) = (rd < 32) × (rs1 < 32) × IsImmediate imm
OperandsFit (Shift name rd rs1 amount) = (rd < 32) × (rs1 < 32) × (amount < 32)
OperandsFit (Indirect name rd rs1 imm) = (rd < 32) × (rs1 < 32) × IsImmediate imm
OperandsFit (Store name rs1 rs2 imm) = (rs1 < 32) × (rs2 < 32) × IsImmediate imm
OperandsFit (Branch name rs1 rs2 offset) = (rs1 < 32) × (rs2 < 32) × IsOffset 4096 offset
OperandsFit (Jump rd offset) = (rd < 32) × IsOffset 1048576 offset
OperandsFit (Upper name rd imm) = (rd < 32) × (imm < 2 ^ 20)
OperandsFit (Plain name) = Unit {0}
