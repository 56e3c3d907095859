-- The instructions that have a word: each field is in the range that its place in the word gives it.
use Rattle.std.specs.Prelude.{◌≡◌, ℕ, ◌-◌, ◌^◌, ◌<◌, ◌≤ℤ◌, ℤ, pos, neg_ℤ, int_rem}
use Rattle.seq_isa.specs.Table.{opcode_of, funct3_of}
use Rattle.seq_isa.specs.declared.instr.Instr.{Instr}
use Rattle.seq_isa.specs.declared.instr.Instr.TheVariants.{Lui, Auipc, Jal, Jalr, Beq, Bne, Blt, Bge, Bltu, Bgeu, Lb, Lh, Lw, Lbu, Lhu, Sb, Sh, Sw, Addi, Slti, Sltiu, Xori, Ori, Andi, Slli, Srli, Srai, Add, Sub, Sll, Slt, Sltu, Xor, Srl, Sra, Or, And, Mul, Mulh, Mulhsu, Mulhu, Div, Divu, Rem, Remu, Fence, Ecall, Ebreak}

-- an immediate of 12 bits, from -2048 to 2047
pub record IsImmediate (z : ℤ) : Type 0 where
  pub low : neg_ℤ (pos 2048) ≤ℤ z
  pub high : z ≤ℤ pos 2047

-- an even offset from -half to half - 2, as a branch and a jump have them
pub record IsOffset (half : ℕ) (z : ℤ) : Type 0 where
  pub low : neg_ℤ (pos half) ≤ℤ z
  pub high : z ≤ℤ pos (half - 2)
  pub even : int_rem z (pos 2) ≡ pos 0

-- the registers are below 32, and each immediate, offset or amount is in its range; a fence is a word of FENCE
abbrev pub InRange : Instr → Type 0
InRange (Lui rd imm) = (rd < 32) × (imm < 2 ^ 20)
InRange (Auipc rd imm) = (rd < 32) × (imm < 2 ^ 20)
InRange (Jal rd offset) = (rd < 32) × IsOffset 1048576 offset
InRange (Jalr rd rs1 imm) = (rd < 32) × (rs1 < 32) × IsImmediate imm
InRange (Beq rs1 rs2 offset) = (rs1 < 32) × (rs2 < 32) × IsOffset 4096 offset
InRange (Bne rs1 rs2 offset) = (rs1 < 32) × (rs2 < 32) × IsOffset 4096 offset
InRange (Blt rs1 rs2 offset) = (rs1 < 32) × (rs2 < 32) × IsOffset 4096 offset
InRange (Bge rs1 rs2 offset) = (rs1 < 32) × (rs2 < 32) × IsOffset 4096 offset
InRange (Bltu rs1 rs2 offset) = (rs1 < 32) × (rs2 < 32) × IsOffset 4096 offset
InRange (Bgeu rs1 rs2 offset) = (rs1 < 32) × (rs2 < 32) × IsOffset 4096 offset
InRange (Lb rd rs1 imm) = (rd < 32) × (rs1 < 32) × IsImmediate imm
InRange (Lh rd rs1 imm) = (rd < 32) × (rs1 < 32) × IsImmediate imm
InRange (Lw rd rs1 imm) = (rd < 32) × (rs1 < 32) × IsImmediate imm
InRange (Lbu rd rs1 imm) = (rd < 32) × (rs1 < 32) × IsImmediate imm
InRange (Lhu rd rs1 imm) = (rd < 32) × (rs1 < 32) × IsImmediate imm
InRange (Sb rs1 rs2 imm) = (rs1 < 32) × (rs2 < 32) × IsImmediate imm
InRange (Sh rs1 rs2 imm) = (rs1 < 32) × (rs2 < 32) × IsImmediate imm
InRange (Sw rs1 rs2 imm) = (rs1 < 32) × (rs2 < 32) × IsImmediate imm
InRange (Addi rd rs1 imm) = (rd < 32) × (rs1 < 32) × IsImmediate imm
InRange (Slti rd rs1 imm) = (rd < 32) × (rs1 < 32) × IsImmediate imm
InRange (Sltiu rd rs1 imm) = (rd < 32) × (rs1 < 32) × IsImmediate imm
InRange (Xori rd rs1 imm) = (rd < 32) × (rs1 < 32) × IsImmediate imm
InRange (Ori rd rs1 imm) = (rd < 32) × (rs1 < 32) × IsImmediate imm
InRange (Andi rd rs1 imm) = (rd < 32) × (rs1 < 32) × IsImmediate imm
InRange (Slli rd rs1 amount) = (rd < 32) × (rs1 < 32) × (amount < 32)
InRange (Srli rd rs1 amount) = (rd < 32) × (rs1 < 32) × (amount < 32)
InRange (Srai rd rs1 amount) = (rd < 32) × (rs1 < 32) × (amount < 32)
InRange (Add rd rs1 rs2) = (rd < 32) × (rs1 < 32) × (rs2 < 32)
InRange (Sub rd rs1 rs2) = (rd < 32) × (rs1 < 32) × (rs2 < 32)
InRange (Sll rd rs1 rs2) = (rd < 32) × (rs1 < 32) × (rs2 < 32)
InRange (Slt rd rs1 rs2) = (rd < 32) × (rs1 < 32) × (rs2 < 32)
InRange (Sltu rd rs1 rs2) = (rd < 32) × (rs1 < 32) × (rs2 < 32)
InRange (Xor rd rs1 rs2) = (rd < 32) × (rs1 < 32) × (rs2 < 32)
InRange (Srl rd rs1 rs2) = (rd < 32) × (rs1 < 32) × (rs2 < 32)
InRange (Sra rd rs1 rs2) = (rd < 32) × (rs1 < 32) × (rs2 < 32)
InRange (Or rd rs1 rs2) = (rd < 32) × (rs1 < 32) × (rs2 < 32)
InRange (And rd rs1 rs2) = (rd < 32) × (rs1 < 32) × (rs2 < 32)
InRange (Mul rd rs1 rs2) = (rd < 32) × (rs1 < 32) × (rs2 < 32)
InRange (Mulh rd rs1 rs2) = (rd < 32) × (rs1 < 32) × (rs2 < 32)
InRange (Mulhsu rd rs1 rs2) = (rd < 32) × (rs1 < 32) × (rs2 < 32)
InRange (Mulhu rd rs1 rs2) = (rd < 32) × (rs1 < 32) × (rs2 < 32)
InRange (Div rd rs1 rs2) = (rd < 32) × (rs1 < 32) × (rs2 < 32)
InRange (Divu rd rs1 rs2) = (rd < 32) × (rs1 < 32) × (rs2 < 32)
InRange (Rem rd rs1 rs2) = (rd < 32) × (rs1 < 32) × (rs2 < 32)
InRange (Remu rd rs1 rs2) = (rd < 32) × (rs1 < 32) × (rs2 < 32)
InRange (Fence word) = (opcode_of word ≡ 0b0001111) × (funct3_of word ≡ 0b000) × (word < 2 ^ 32)
InRange Ecall = Unit {0}
InRange Ebreak = Unit {0}
