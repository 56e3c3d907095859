-- After an instruction pc is a multiple of four again.
use Rattle.std.proofs.Common.{◌≡◌, ℕ, ◌+◌, ◌*◌, ◌%◌, ◌^◌, Bool, true, false, Option, Some, None, if◌then◌else◌, ◌==◌, ℤ, arith, refl}
use Rattle.std.proofs.lemmas.Bool.{eqb-true}
use Rattle.seq_words.specs.declared.regs.Regs.{Regs}
use Rattle.seq_isa.specs.Decoded.{decode_of}
use Rattle.seq_isa.specs.Meaning.{Bytes, Outcome, moves, trap, number_at, unsigned, gives, jumps, branches, loaded, loads, put, stores, following, outcome_of, outcome_if, outcome_in, outcome_at}
use Rattle.seq_isa.specs.Laws.{IsAligned}
use Rattle.seq_isa.specs.declared.instr.Instr.{Instr}
use Rattle.seq_isa.specs.declared.instr.Instr.TheVariants.{Lui, Auipc, Jal, Jalr, Beq, Bne, Blt, Bge, Bltu, Bgeu, Lb, Lh, Lw, Lbu, Lhu, Sb, Sh, Sw, Addi, Slti, Sltiu, Xori, Ori, Andi, Slli, Srli, Srai, Add, Sub, Sll, Slt, Sltu, Xor, Srl, Sra, Or, And, Mul, Mulh, Mulhsu, Mulhu, Div, Divu, Rem, Remu, Fence, Ecall, Ebreak}

aligned : (wrote : Option (ℕ × ℕ)) (store : Option (ℕ × ℕ × ℕ)) (next : ℕ) → next % 4 ≡ 0 → IsAligned (moves wrote store next)
aligned wrote store next h = record { next = h }

traps : (cause : ℕ) → IsAligned (trap cause)
traps cause = record { next = tt }

choice : (t : Bool) (x y : Outcome) → (t ≡ true → IsAligned x) → (t ≡ false → IsAligned y) → IsAligned (if t then x else y)
choice true x y first second = first refl
choice false x y first second = second refl

follows : (r : Regs) → r.pc % 4 ≡ 0 → following r % 4 ≡ 0
follows r h = omega arith

gives_aligned : (r : Regs) (rd value : ℕ) → r.pc % 4 ≡ 0 → IsAligned (gives r rd value)
unfolding gives
gives_aligned r rd value h = aligned _ _ _ (follows r h)

jumps_aligned : (r : Regs) (rd target : ℕ) → IsAligned (jumps r rd target)
unfolding jumps
jumps_aligned r rd target = choice (target % 4 == 0) _ _ (λ t. aligned _ _ _ (eqb-true _ _ t)) (λ _. traps 0)

branches_aligned : (r : Regs) (taken : Bool) (offset : ℤ) → r.pc % 4 ≡ 0 → IsAligned (branches r taken offset)
unfolding branches
branches_aligned r true offset h = choice ((r.pc + unsigned offset) % 2 ^ 32 % 4 == 0) _ _ (λ t. aligned _ _ ((r.pc + unsigned offset) % 2 ^ 32) (eqb-true _ _ t)) (λ _. traps 0)
branches_aligned r false offset h = aligned _ _ _ (follows r h)

loaded_aligned : (r : Regs) (rd : ℕ) (extend : ℕ → ℕ) (o : Option ℕ) → r.pc % 4 ≡ 0 → IsAligned (loaded r rd extend o)
loaded_aligned r rd extend (Some n) h = gives_aligned r rd (extend n) h
loaded_aligned r rd extend None h = traps 5

loads_aligned : (r : Regs) (bytes : Bytes) (rd at width : ℕ) (extend : ℕ → ℕ) → r.pc % 4 ≡ 0 → IsAligned (loads r bytes rd at width extend)
unfolding loads
loads_aligned r bytes rd at width extend h = choice (at % width == 0) _ _ (λ _. loaded_aligned r rd extend (number_at bytes at width) h) (λ _. traps 4)

put_aligned : (r : Regs) (at width value : ℕ) (o : Option ℕ) → r.pc % 4 ≡ 0 → IsAligned (put r at width value o)
put_aligned r at width value (Some n) h = aligned _ _ _ (follows r h)
put_aligned r at width value None h = traps 7

stores_aligned : (r : Regs) (bytes : Bytes) (at width value : ℕ) → r.pc % 4 ≡ 0 → IsAligned (stores r bytes at width value)
unfolding stores
stores_aligned r bytes at width value h = choice (at % width == 0) _ _ (λ _. put_aligned r at width (value % 2 ^ (8 * width)) (number_at bytes at width) h) (λ _. traps 6)

of_instruction : (r : Regs) (bytes : Bytes) (i : Instr) → r.pc % 4 ≡ 0 → IsAligned (outcome_of r bytes i)
unfolding outcome_of
of_instruction r bytes (Lui rd imm) h = gives_aligned r rd _ h
of_instruction r bytes (Auipc rd imm) h = gives_aligned r rd _ h
of_instruction r bytes (Jal rd offset) h = jumps_aligned r rd _
of_instruction r bytes (Jalr rd rs1 imm) h = jumps_aligned r rd _
of_instruction r bytes (Beq rs1 rs2 offset) h = branches_aligned r _ offset h
of_instruction r bytes (Bne rs1 rs2 offset) h = branches_aligned r _ offset h
of_instruction r bytes (Blt rs1 rs2 offset) h = branches_aligned r _ offset h
of_instruction r bytes (Bge rs1 rs2 offset) h = branches_aligned r _ offset h
of_instruction r bytes (Bltu rs1 rs2 offset) h = branches_aligned r _ offset h
of_instruction r bytes (Bgeu rs1 rs2 offset) h = branches_aligned r _ offset h
of_instruction r bytes (Lb rd rs1 imm) h = loads_aligned r bytes rd _ _ _ h
of_instruction r bytes (Lh rd rs1 imm) h = loads_aligned r bytes rd _ _ _ h
of_instruction r bytes (Lw rd rs1 imm) h = loads_aligned r bytes rd _ _ _ h
of_instruction r bytes (Lbu rd rs1 imm) h = loads_aligned r bytes rd _ _ _ h
of_instruction r bytes (Lhu rd rs1 imm) h = loads_aligned r bytes rd _ _ _ h
of_instruction r bytes (Sb rs1 rs2 imm) h = stores_aligned r bytes _ _ _ h
of_instruction r bytes (Sh rs1 rs2 imm) h = stores_aligned r bytes _ _ _ h
of_instruction r bytes (Sw rs1 rs2 imm) h = stores_aligned r bytes _ _ _ h
of_instruction r bytes (Addi rd rs1 imm) h = gives_aligned r rd _ h
of_instruction r bytes (Slti rd rs1 imm) h = gives_aligned r rd _ h
of_instruction r bytes (Sltiu rd rs1 imm) h = gives_aligned r rd _ h
of_instruction r bytes (Xori rd rs1 imm) h = gives_aligned r rd _ h
of_instruction r bytes (Ori rd rs1 imm) h = gives_aligned r rd _ h
of_instruction r bytes (Andi rd rs1 imm) h = gives_aligned r rd _ h
of_instruction r bytes (Slli rd rs1 amount) h = gives_aligned r rd _ h
of_instruction r bytes (Srli rd rs1 amount) h = gives_aligned r rd _ h
of_instruction r bytes (Srai rd rs1 amount) h = gives_aligned r rd _ h
of_instruction r bytes (Add rd rs1 rs2) h = gives_aligned r rd _ h
of_instruction r bytes (Sub rd rs1 rs2) h = gives_aligned r rd _ h
of_instruction r bytes (Sll rd rs1 rs2) h = gives_aligned r rd _ h
of_instruction r bytes (Slt rd rs1 rs2) h = gives_aligned r rd _ h
of_instruction r bytes (Sltu rd rs1 rs2) h = gives_aligned r rd _ h
of_instruction r bytes (Xor rd rs1 rs2) h = gives_aligned r rd _ h
of_instruction r bytes (Srl rd rs1 rs2) h = gives_aligned r rd _ h
of_instruction r bytes (Sra rd rs1 rs2) h = gives_aligned r rd _ h
of_instruction r bytes (Or rd rs1 rs2) h = gives_aligned r rd _ h
of_instruction r bytes (And rd rs1 rs2) h = gives_aligned r rd _ h
of_instruction r bytes (Mul rd rs1 rs2) h = gives_aligned r rd _ h
of_instruction r bytes (Mulh rd rs1 rs2) h = gives_aligned r rd _ h
of_instruction r bytes (Mulhsu rd rs1 rs2) h = gives_aligned r rd _ h
of_instruction r bytes (Mulhu rd rs1 rs2) h = gives_aligned r rd _ h
of_instruction r bytes (Div rd rs1 rs2) h = gives_aligned r rd _ h
of_instruction r bytes (Divu rd rs1 rs2) h = gives_aligned r rd _ h
of_instruction r bytes (Rem rd rs1 rs2) h = gives_aligned r rd _ h
of_instruction r bytes (Remu rd rs1 rs2) h = gives_aligned r rd _ h
of_instruction r bytes (Fence word) h = aligned _ _ _ (follows r h)
of_instruction r bytes Ecall h = record { next = tt }
of_instruction r bytes Ebreak h = traps 3

of_decoded : (r : Regs) (bytes : Bytes) (o : Option Instr) → r.pc % 4 ≡ 0 → IsAligned (outcome_if r bytes o)
of_decoded r bytes (Some i) h = of_instruction r bytes i h
of_decoded r bytes None h = traps 2

of_fetched : (r : Regs) (bytes : Bytes) (o : Option ℕ) → r.pc % 4 ≡ 0 → IsAligned (outcome_in r bytes o)
of_fetched r bytes (Some w) h = of_decoded r bytes (decode_of w) h
of_fetched r bytes None h = traps 1

-- after the instruction at an aligned pc, pc is aligned
pub outcome_aligned : (r : Regs) (bytes : Bytes) → r.pc % 4 ≡ 0 → IsAligned (outcome_at r bytes)
outcome_aligned r bytes h = of_fetched r bytes (number_at bytes r.pc 4) h
