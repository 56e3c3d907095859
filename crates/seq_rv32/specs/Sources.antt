-- The registers that an instruction reads: beside pc and the memory, its outcome depends on these alone.
use Rattle.std.specs.Prelude.{◌≡◌, ℕ}
use Rattle.seq_words.specs.declared.regs.Regs.{Regs}
use Rattle.seq_isa.specs.declared.instr.Instr.{Instr}
use Rattle.seq_isa.specs.declared.instr.Instr.TheVariants.{Lui, Auipc, Jal, Jalr, Beq, Bne, Blt, Bge, Bltu, Bgeu, Lb, Lh, Lw, Lbu, Lhu, Sb, Sh, Sw, Addi, Slti, Sltiu, Xori, Ori, Andi, Slli, Srli, Srai, Add, Sub, Sll, Slt, Sltu, Xor, Srl, Sra, Or, And, Mul, Mulh, Mulhsu, Mulhu, Div, Divu, Rem, Remu, Fence, Ecall, Ebreak}
use Rattle.seq_isa.specs.Meaning.{Bytes, register, outcome_of}

-- two register sets hold the same in pc and in these two registers
pub record HoldAlike (a b : Regs) (i j : ℕ) : Type 0 where
  pub pc : a.pc ≡ b.pc
  pub first : register a i ≡ register b i
  pub second : register a j ≡ register b j

-- an instruction reads these two registers alone
pub record ReadsOnly (instr : Instr) (i j : ℕ) : Type 0 where
  pub alike : (a b : Regs) (bytes : Bytes) → HoldAlike a b i j → outcome_of a bytes instr ≡ outcome_of b bytes instr

-- the two registers that an instruction reads; x0 stands for none
abbrev pub sources_of : Instr → ℕ × ℕ
sources_of (Lui rd imm) = (0, 0)
sources_of (Auipc rd imm) = (0, 0)
sources_of (Jal rd imm) = (0, 0)
sources_of (Jalr rd rs1 imm) = (rs1, 0)
sources_of (Beq rs1 rs2 offset) = (rs1, rs2)
sources_of (Bne rs1 rs2 offset) = (rs1, rs2)
sources_of (Blt rs1 rs2 offset) = (rs1, rs2)
sources_of (Bge rs1 rs2 offset) = (rs1, rs2)
sources_of (Bltu rs1 rs2 offset) = (rs1, rs2)
sources_of (Bgeu rs1 rs2 offset) = (rs1, rs2)
sources_of (Lb rd rs1 imm) = (rs1, 0)
sources_of (Lh rd rs1 imm) = (rs1, 0)
sources_of (Lw rd rs1 imm) = (rs1, 0)
sources_of (Lbu rd rs1 imm) = (rs1, 0)
sources_of (Lhu rd rs1 imm) = (rs1, 0)
sources_of (Sb rs1 rs2 imm) = (rs1, rs2)
sources_of (Sh rs1 rs2 imm) = (rs1, rs2)
sources_of (Sw rs1 rs2 imm) = (rs1, rs2)
sources_of (Addi rd rs1 imm) = (rs1, 0)
sources_of (Slti rd rs1 imm) = (rs1, 0)
sources_of (Sltiu rd rs1 imm) = (rs1, 0)
sources_of (Xori rd rs1 imm) = (rs1, 0)
sources_of (Ori rd rs1 imm) = (rs1, 0)
sources_of (Andi rd rs1 imm) = (rs1, 0)
sources_of (Slli rd rs1 imm) = (rs1, 0)
sources_of (Srli rd rs1 imm) = (rs1, 0)
sources_of (Srai rd rs1 imm) = (rs1, 0)
sources_of (Add rd rs1 rs2) = (rs1, rs2)
sources_of (Sub rd rs1 rs2) = (rs1, rs2)
sources_of (Sll rd rs1 rs2) = (rs1, rs2)
sources_of (Slt rd rs1 rs2) = (rs1, rs2)
sources_of (Sltu rd rs1 rs2) = (rs1, rs2)
sources_of (Xor rd rs1 rs2) = (rs1, rs2)
sources_of (Srl rd rs1 rs2) = (rs1, rs2)
sources_of (Sra rd rs1 rs2) = (rs1, rs2)
sources_of (Or rd rs1 rs2) = (rs1, rs2)
sources_of (And rd rs1 rs2) = (rs1, rs2)
sources_of (Mul rd rs1 rs2) = (rs1, rs2)
sources_of (Mulh rd rs1 rs2) = (rs1, rs2)
sources_of (Mulhsu rd rs1 rs2) = (rs1, rs2)
sources_of (Mulhu rd rs1 rs2) = (rs1, rs2)
sources_of (Div rd rs1 rs2) = (rs1, rs2)
sources_of (Divu rd rs1 rs2) = (rs1, rs2)
sources_of (Rem rd rs1 rs2) = (rs1, rs2)
sources_of (Remu rd rs1 rs2) = (rs1, rs2)
sources_of (Fence word) = (0, 0)
sources_of Ecall = (0, 0)
sources_of Ebreak = (0, 0)

abbrev pub InstructionsReadSources : Type 0
InstructionsReadSources = (i : Instr) → ReadsOnly i (sources_of i).0 (sources_of i).1
