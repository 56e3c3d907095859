-- An instruction that a word of 32 bits stands for is in range.
use Rattle.std.proofs.Common.{◌≡◌, ℕ, ◌%◌, ◌<◌, ◌^◌, Option, Some, None, IfSome, arith, sym, subst}
use Rattle.std.proofs.lemmas.Int.{ints}
use Rattle.seq_isa.specs.Table.{StandsFor, sign_extended}
use Rattle.seq_isa.specs.InRange.{InRange, IsImmediate, IsOffset}
use Rattle.seq_isa.specs.declared.instr.Instr.{Instr}
use Rattle.seq_isa.specs.declared.instr.Instr.TheVariants.{Lui, Auipc, Jal, Jalr, Beq, Bne, Blt, Bge, Bltu, Bgeu, Lb, Lh, Lw, Lbu, Lhu, Sb, Sh, Sw, Addi, Slti, Sltiu, Xori, Ori, Andi, Slli, Srli, Srai, Add, Sub, Sll, Slt, Sltu, Xor, Srl, Sra, Or, And, Mul, Mulh, Mulhsu, Mulhu, Div, Divu, Rem, Remu, Fence, Ecall, Ebreak}

-- twelve bits are an immediate
immediate_in : (n : ℕ) → n < 4096 → IsImmediate (sign_extended 12 n)
immediate_in n b = grind (arith, ints)

-- thirteen bits, of which the lowest is 0, are the offset of a branch
branch_in : (n : ℕ) → n < 8192 → n % 2 ≡ 0 → IsOffset 4096 (sign_extended 13 n)
branch_in n b even = grind (arith, ints)

-- twenty-one bits, of which the lowest is 0, are the offset of a jump
jump_in : (n : ℕ) → n < 2097152 → n % 2 ≡ 0 → IsOffset 1048576 (sign_extended 21 n)
jump_in n b even = grind (arith, ints)

-- what a word of 32 bits stands for is in range
pub ranges_in : (w : ℕ) → w < 2 ^ 32 → (i : Instr) → StandsFor w i → InRange i
ranges_in w b (Lui rd imm) h = (omega arith, omega arith)
ranges_in w b (Auipc rd imm) h = (omega arith, omega arith)
ranges_in w b (Jal rd offset) h = (omega arith, subst (IsOffset 1048576) (sym h.offset_is) (jump_in _ (omega arith) (omega arith)))
ranges_in w b (Jalr rd rs1 imm) h = (omega arith, omega arith, subst IsImmediate (sym h.imm_is) (immediate_in _ (omega arith)))
ranges_in w b (Beq rs1 rs2 offset) h = (omega arith, omega arith, subst (IsOffset 4096) (sym h.offset_is) (branch_in _ (omega arith) (omega arith)))
ranges_in w b (Bne rs1 rs2 offset) h = (omega arith, omega arith, subst (IsOffset 4096) (sym h.offset_is) (branch_in _ (omega arith) (omega arith)))
ranges_in w b (Blt rs1 rs2 offset) h = (omega arith, omega arith, subst (IsOffset 4096) (sym h.offset_is) (branch_in _ (omega arith) (omega arith)))
ranges_in w b (Bge rs1 rs2 offset) h = (omega arith, omega arith, subst (IsOffset 4096) (sym h.offset_is) (branch_in _ (omega arith) (omega arith)))
ranges_in w b (Bltu rs1 rs2 offset) h = (omega arith, omega arith, subst (IsOffset 4096) (sym h.offset_is) (branch_in _ (omega arith) (omega arith)))
ranges_in w b (Bgeu rs1 rs2 offset) h = (omega arith, omega arith, subst (IsOffset 4096) (sym h.offset_is) (branch_in _ (omega arith) (omega arith)))
ranges_in w b (Lb rd rs1 imm) h = (omega arith, omega arith, subst IsImmediate (sym h.imm_is) (immediate_in _ (omega arith)))
ranges_in w b (Lh rd rs1 imm) h = (omega arith, omega arith, subst IsImmediate (sym h.imm_is) (immediate_in _ (omega arith)))
ranges_in w b (Lw rd rs1 imm) h = (omega arith, omega arith, subst IsImmediate (sym h.imm_is) (immediate_in _ (omega arith)))
ranges_in w b (Lbu rd rs1 imm) h = (omega arith, omega arith, subst IsImmediate (sym h.imm_is) (immediate_in _ (omega arith)))
ranges_in w b (Lhu rd rs1 imm) h = (omega arith, omega arith, subst IsImmediate (sym h.imm_is) (immediate_in _ (omega arith)))
ranges_in w b (Sb rs1 rs2 imm) h = (omega arith, omega arith, subst IsImmediate (sym h.imm_is) (immediate_in _ (omega arith)))
ranges_in w b (Sh rs1 rs2 imm) h = (omega arith, omega arith, subst IsImmediate (sym h.imm_is) (immediate_in _ (omega arith)))
ranges_in w b (Sw rs1 rs2 imm) h = (omega arith, omega arith, subst IsImmediate (sym h.imm_is) (immediate_in _ (omega arith)))
ranges_in w b (Addi rd rs1 imm) h = (omega arith, omega arith, subst IsImmediate (sym h.imm_is) (immediate_in _ (omega arith)))
ranges_in w b (Slti rd rs1 imm) h = (omega arith, omega arith, subst IsImmediate (sym h.imm_is) (immediate_in _ (omega arith)))
ranges_in w b (Sltiu rd rs1 imm) h = (omega arith, omega arith, subst IsImmediate (sym h.imm_is) (immediate_in _ (omega arith)))
ranges_in w b (Xori rd rs1 imm) h = (omega arith, omega arith, subst IsImmediate (sym h.imm_is) (immediate_in _ (omega arith)))
ranges_in w b (Ori rd rs1 imm) h = (omega arith, omega arith, subst IsImmediate (sym h.imm_is) (immediate_in _ (omega arith)))
ranges_in w b (Andi rd rs1 imm) h = (omega arith, omega arith, subst IsImmediate (sym h.imm_is) (immediate_in _ (omega arith)))
ranges_in w b (Slli rd rs1 amount) h = (omega arith, omega arith, omega arith)
ranges_in w b (Srli rd rs1 amount) h = (omega arith, omega arith, omega arith)
ranges_in w b (Srai rd rs1 amount) h = (omega arith, omega arith, omega arith)
ranges_in w b (Add rd rs1 rs2) h = (omega arith, omega arith, omega arith)
ranges_in w b (Sub rd rs1 rs2) h = (omega arith, omega arith, omega arith)
ranges_in w b (Sll rd rs1 rs2) h = (omega arith, omega arith, omega arith)
ranges_in w b (Slt rd rs1 rs2) h = (omega arith, omega arith, omega arith)
ranges_in w b (Sltu rd rs1 rs2) h = (omega arith, omega arith, omega arith)
ranges_in w b (Xor rd rs1 rs2) h = (omega arith, omega arith, omega arith)
ranges_in w b (Srl rd rs1 rs2) h = (omega arith, omega arith, omega arith)
ranges_in w b (Sra rd rs1 rs2) h = (omega arith, omega arith, omega arith)
ranges_in w b (Or rd rs1 rs2) h = (omega arith, omega arith, omega arith)
ranges_in w b (And rd rs1 rs2) h = (omega arith, omega arith, omega arith)
ranges_in w b (Mul rd rs1 rs2) h = (omega arith, omega arith, omega arith)
ranges_in w b (Mulh rd rs1 rs2) h = (omega arith, omega arith, omega arith)
ranges_in w b (Mulhsu rd rs1 rs2) h = (omega arith, omega arith, omega arith)
ranges_in w b (Mulhu rd rs1 rs2) h = (omega arith, omega arith, omega arith)
ranges_in w b (Div rd rs1 rs2) h = (omega arith, omega arith, omega arith)
ranges_in w b (Divu rd rs1 rs2) h = (omega arith, omega arith, omega arith)
ranges_in w b (Rem rd rs1 rs2) h = (omega arith, omega arith, omega arith)
ranges_in w b (Remu rd rs1 rs2) h = (omega arith, omega arith, omega arith)
ranges_in w b (Fence word) h = (omega arith, omega arith, omega arith)
ranges_in w b Ecall h = tt
ranges_in w b Ebreak h = tt

-- so is what is found
pub ranges_found : (w : ℕ) (o : Option Instr) → w < 2 ^ 32 → IfSome o (StandsFor w) → IfSome o InRange
ranges_found w (Some i) b h = ranges_in w b i h
ranges_found w None b h = tt
