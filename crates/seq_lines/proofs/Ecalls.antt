-- Only an ecall calls the kernel.
use Rattle.std.proofs.Common.{◌≡◌, ℕ, ◌+◌, ◌*◌, ◌%◌, ◌^◌, Bool, true, false, Option, Some, None, if◌then◌else◌, ◌==◌, ℤ, refl, ap, ◌∙◌}
use Rattle.seq_words.specs.declared.regs.Regs.{Regs}
use Rattle.seq_isa.specs.Decoded.{decode_of}
use Rattle.seq_isa.specs.Meaning.{Bytes, Outcome, number_at, unsigned, gives, jumps, branches, loaded, loads, put, stores, outcome_of, outcome_if, outcome_in, outcome_at}
use Rattle.seq_isa.specs.declared.instr.Instr.{Instr}
use Rattle.seq_isa.specs.declared.instr.Instr.TheVariants.{Lui, Auipc, Jal, Jalr, Beq, Bne, Blt, Bge, Bltu, Bgeu, Lb, Lh, Lw, Lbu, Lhu, Sb, Sh, Sw, Addi, Slti, Sltiu, Xori, Ori, Andi, Slli, Srli, Srai, Add, Sub, Sll, Slt, Sltu, Xor, Srl, Sra, Or, And, Mul, Mulh, Mulhsu, Mulhu, Div, Divu, Rem, Remu, Fence, Ecall, Ebreak}
use Rattle.seq_lines.specs.Going.{is_call, is_ecall}

either : (t : Bool) (x y : Outcome) → is_call x ≡ false → is_call y ≡ false → is_call (if t then x else y) ≡ false
either true x y first second = first
either false x y first second = second

of_gives : (r : Regs) (rd value : ℕ) → is_call (gives r rd value) ≡ false
unfolding gives
of_gives r rd value = refl

of_jumps : (r : Regs) (rd target : ℕ) → is_call (jumps r rd target) ≡ false
unfolding jumps
of_jumps r rd target = either (target % 4 == 0) _ _ refl refl

of_branches : (r : Regs) (taken : Bool) (offset : ℤ) → is_call (branches r taken offset) ≡ false
unfolding branches
of_branches r taken offset = either taken _ _ (either ((r.pc + unsigned offset) % 2 ^ 32 % 4 == 0) _ _ refl refl) refl

of_loaded : (r : Regs) (rd : ℕ) (extend : ℕ → ℕ) (o : Option ℕ) → is_call (loaded r rd extend o) ≡ false
of_loaded r rd extend (Some n) = of_gives r rd (extend n)
of_loaded r rd extend None = refl

of_loads : (r : Regs) (bytes : Bytes) (rd at width : ℕ) (extend : ℕ → ℕ) → is_call (loads r bytes rd at width extend) ≡ false
unfolding loads
of_loads r bytes rd at width extend = either (at % width == 0) _ _ (of_loaded r rd extend (number_at bytes at width)) refl

of_put : (r : Regs) (at width value : ℕ) (o : Option ℕ) → is_call (put r at width value o) ≡ false
of_put r at width value (Some n) = refl
of_put r at width value None = refl

of_stores : (r : Regs) (bytes : Bytes) (at width value : ℕ) → is_call (stores r bytes at width value) ≡ false
unfolding stores
of_stores r bytes at width value = either (at % width == 0) _ _ (of_put r at width (value % 2 ^ (8 * width)) (number_at bytes at width)) refl

of_instruction : (r : Regs) (bytes : Bytes) (i : Instr) → is_call (outcome_of r bytes i) ≡ is_ecall (Some i)
unfolding outcome_of
of_instruction r bytes (Lui rd imm) = of_gives r rd _
of_instruction r bytes (Auipc rd imm) = of_gives r rd _
of_instruction r bytes (Jal rd offset) = of_jumps r rd _
of_instruction r bytes (Jalr rd rs1 imm) = of_jumps r rd _
of_instruction r bytes (Beq rs1 rs2 offset) = of_branches r _ offset
of_instruction r bytes (Bne rs1 rs2 offset) = of_branches r _ offset
of_instruction r bytes (Blt rs1 rs2 offset) = of_branches r _ offset
of_instruction r bytes (Bge rs1 rs2 offset) = of_branches r _ offset
of_instruction r bytes (Bltu rs1 rs2 offset) = of_branches r _ offset
of_instruction r bytes (Bgeu rs1 rs2 offset) = of_branches r _ offset
of_instruction r bytes (Lb rd rs1 imm) = of_loads r bytes rd _ _ _
of_instruction r bytes (Lh rd rs1 imm) = of_loads r bytes rd _ _ _
of_instruction r bytes (Lw rd rs1 imm) = of_loads r bytes rd _ _ _
of_instruction r bytes (Lbu rd rs1 imm) = of_loads r bytes rd _ _ _
of_instruction r bytes (Lhu rd rs1 imm) = of_loads r bytes rd _ _ _
of_instruction r bytes (Sb rs1 rs2 imm) = of_stores r bytes _ _ _
of_instruction r bytes (Sh rs1 rs2 imm) = of_stores r bytes _ _ _
of_instruction r bytes (Sw rs1 rs2 imm) = of_stores r bytes _ _ _
of_instruction r bytes (Addi rd rs1 imm) = of_gives r rd _
of_instruction r bytes (Slti rd rs1 imm) = of_gives r rd _
of_instruction r bytes (Sltiu rd rs1 imm) = of_gives r rd _
of_instruction r bytes (Xori rd rs1 imm) = of_gives r rd _
of_instruction r bytes (Ori rd rs1 imm) = of_gives r rd _
of_instruction r bytes (Andi rd rs1 imm) = of_gives r rd _
of_instruction r bytes (Slli rd rs1 amount) = of_gives r rd _
of_instruction r bytes (Srli rd rs1 amount) = of_gives r rd _
of_instruction r bytes (Srai rd rs1 amount) = of_gives r rd _
of_instruction r bytes (Add rd rs1 rs2) = of_gives r rd _
of_instruction r bytes (Sub rd rs1 rs2) = of_gives r rd _
of_instruction r bytes (Sll rd rs1 rs2) = of_gives r rd _
of_instruction r bytes (Slt rd rs1 rs2) = of_gives r rd _
of_instruction r bytes (Sltu rd rs1 rs2) = of_gives r rd _
of_instruction r bytes (Xor rd rs1 rs2) = of_gives r rd _
of_instruction r bytes (Srl rd rs1 rs2) = of_gives r rd _
of_instruction r bytes (Sra rd rs1 rs2) = of_gives r rd _
of_instruction r bytes (Or rd rs1 rs2) = of_gives r rd _
of_instruction r bytes (And rd rs1 rs2) = of_gives r rd _
of_instruction r bytes (Mul rd rs1 rs2) = of_gives r rd _
of_instruction r bytes (Mulh rd rs1 rs2) = of_gives r rd _
of_instruction r bytes (Mulhsu rd rs1 rs2) = of_gives r rd _
of_instruction r bytes (Mulhu rd rs1 rs2) = of_gives r rd _
of_instruction r bytes (Div rd rs1 rs2) = of_gives r rd _
of_instruction r bytes (Divu rd rs1 rs2) = of_gives r rd _
of_instruction r bytes (Rem rd rs1 rs2) = of_gives r rd _
of_instruction r bytes (Remu rd rs1 rs2) = of_gives r rd _
of_instruction r bytes (Fence word) = refl
of_instruction r bytes Ecall = refl
of_instruction r bytes Ebreak = refl

of_decoded : (r : Regs) (bytes : Bytes) (o : Option Instr) → is_call (outcome_if r bytes o) ≡ is_ecall o
of_decoded r bytes (Some i) = of_instruction r bytes i
of_decoded r bytes None = refl

-- what is fetched calls where it is an ecall
pub calls_by_ecall : (r : Regs) (bytes : Bytes) (w : ℕ) → number_at bytes r.pc 4 ≡ Some w → is_call (outcome_at r bytes) ≡ is_ecall (decode_of w)
calls_by_ecall r bytes w fetched = ap (λ o. is_call (outcome_in r bytes o)) fetched ∙ of_decoded r bytes (decode_of w)

pub calls_nothing : (r : Regs) (bytes : Bytes) → number_at bytes r.pc 4 ≡ None → is_call (outcome_at r bytes) ≡ false
calls_nothing r bytes outside = ap (λ o. is_call (outcome_in r bytes o)) outside
