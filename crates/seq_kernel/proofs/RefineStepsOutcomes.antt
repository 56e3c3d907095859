-- The store of an outcome is of an aligned width, at bytes that the memory has.
use Rattle.std.proofs.Common.{◌≡◌, ℕ, ◌+◌, ◌*◌, ◌%◌, ◌^◌, Bool, true, false, Option, Some, None, if◌then◌else◌, ◌==◌, ℤ, refl, subst, inl, inr}
use Rattle.std.proofs.lemmas.Bool.{eqb-true}
use Rattle.seq_words.specs.declared.regs.Regs.{Regs}
use Rattle.seq_isa.specs.Decoded.{decode_of}
use Rattle.seq_isa.specs.Meaning.{Bytes, Outcome, moves, call, trap, number_at, register, unsigned, address, gives, jumps, branches, loaded, loads, put, stores, outcome_of, outcome_if, outcome_in, outcome_at}
use Rattle.seq_isa.specs.declared.instr.Instr.{Instr}
use Rattle.seq_isa.specs.declared.instr.Instr.TheVariants.{Lui, Auipc, Jal, Jalr, Beq, Bne, Blt, Bge, Bltu, Bgeu, Lb, Lh, Lw, Lbu, Lhu, Sb, Sh, Sw, Addi, Slti, Sltiu, Xori, Ori, Andi, Slli, Srli, Srai, Add, Sub, Sll, Slt, Sltu, Xor, Srl, Sra, Or, And, Mul, Mulh, Mulhsu, Mulhu, Div, Divu, Rem, Remu, Fence, Ecall, Ebreak}
use Rattle.seq_rv32.specs.Widths.{IsWidth}

-- a store of an aligned width, at a place where the memory has a number
pub record IsPut (bytes : Bytes) (s : ℕ × ℕ × ℕ) : Type 0 where
  pub width : IsWidth s.1
  pub aligned : s.0 % s.1 ≡ 0
  pub before : ℕ
  pub there : number_at bytes s.0 s.1 ≡ Some before

abbrev store_is_put : Bytes → Outcome → Type 0
store_is_put bytes (moves wrote (Some s) next) = IsPut bytes s
store_is_put bytes (moves wrote None next) = Unit {0}
store_is_put bytes call = Unit {0}
store_is_put bytes (trap cause) = Unit {0}

-- the store of an outcome, if any, is such a store
record StoreIsPut (bytes : Bytes) (o : Outcome) : Type 0 where
  store : store_is_put bytes o

storeless : (bytes : Bytes) (wrote : Option (ℕ × ℕ)) (next : ℕ) → StoreIsPut bytes (moves wrote None next)
storeless bytes wrote next = record { store = tt }

traps : (bytes : Bytes) (cause : ℕ) → StoreIsPut bytes (trap cause)
traps bytes cause = record { store = tt }

choice : (bytes : Bytes) (t : Bool) (x y : Outcome) → (t ≡ true → StoreIsPut bytes x) → StoreIsPut bytes y → StoreIsPut bytes (if t then x else y)
choice bytes true x y first second = first refl
choice bytes false x y first second = second

of_gives : (r : Regs) (bytes : Bytes) (rd value : ℕ) → StoreIsPut bytes (gives r rd value)
unfolding gives
of_gives r bytes rd value = storeless bytes _ _

of_jumps : (r : Regs) (bytes : Bytes) (rd target : ℕ) → StoreIsPut bytes (jumps r rd target)
unfolding jumps
of_jumps r bytes rd target = choice bytes (target % 4 == 0) _ _ (λ _. storeless bytes _ _) (traps bytes 0)

of_branches : (r : Regs) (bytes : Bytes) (taken : Bool) (offset : ℤ) → StoreIsPut bytes (branches r taken offset)
unfolding branches
of_branches r bytes true offset = choice bytes ((r.pc + unsigned offset) % 2 ^ 32 % 4 == 0) _ _ (λ _. storeless bytes _ _) (traps bytes 0)
of_branches r bytes false offset = storeless bytes _ _

of_loaded : (r : Regs) (bytes : Bytes) (rd : ℕ) (extend : ℕ → ℕ) (o : Option ℕ) → StoreIsPut bytes (loaded r rd extend o)
of_loaded r bytes rd extend (Some n) = of_gives r bytes rd (extend n)
of_loaded r bytes rd extend None = traps bytes 5

of_loads : (r : Regs) (bytes : Bytes) (rd at width : ℕ) (extend : ℕ → ℕ) → StoreIsPut bytes (loads r bytes rd at width extend)
unfolding loads
of_loads r bytes rd at width extend = choice bytes (at % width == 0) _ _ (λ _. of_loaded r bytes rd extend (number_at bytes at width)) (traps bytes 4)

of_put : (r : Regs) (bytes : Bytes) (at width value : ℕ) (o : Option ℕ) → IsWidth width → at % width ≡ 0 → number_at bytes at width ≡ o → StoreIsPut bytes (put r at width value o)
of_put r bytes at width value (Some n) wide aligned there = record { store = record { width = wide; aligned = aligned; before = n; there = there } }
of_put r bytes at width value None wide aligned there = traps bytes 7

of_stores : (r : Regs) (bytes : Bytes) (at width value : ℕ) → IsWidth width → StoreIsPut bytes (stores r bytes at width value)
unfolding stores
of_stores r bytes at width value wide = choice bytes (at % width == 0) _ _ (λ t. of_put r bytes at width (value % 2 ^ (8 * width)) (number_at bytes at width) wide (eqb-true _ _ t) refl) (traps bytes 6)

of_instruction : (r : Regs) (bytes : Bytes) (i : Instr) → StoreIsPut bytes (outcome_of r bytes i)
unfolding outcome_of
of_instruction r bytes (Lui rd imm) = of_gives r bytes rd _
of_instruction r bytes (Auipc rd imm) = of_gives r bytes rd _
of_instruction r bytes (Jal rd offset) = of_jumps r bytes rd _
of_instruction r bytes (Jalr rd rs1 imm) = of_jumps r bytes rd _
of_instruction r bytes (Beq rs1 rs2 offset) = of_branches r bytes _ offset
of_instruction r bytes (Bne rs1 rs2 offset) = of_branches r bytes _ offset
of_instruction r bytes (Blt rs1 rs2 offset) = of_branches r bytes _ offset
of_instruction r bytes (Bge rs1 rs2 offset) = of_branches r bytes _ offset
of_instruction r bytes (Bltu rs1 rs2 offset) = of_branches r bytes _ offset
of_instruction r bytes (Bgeu rs1 rs2 offset) = of_branches r bytes _ offset
of_instruction r bytes (Lb rd rs1 imm) = of_loads r bytes rd _ _ _
of_instruction r bytes (Lh rd rs1 imm) = of_loads r bytes rd _ _ _
of_instruction r bytes (Lw rd rs1 imm) = of_loads r bytes rd _ _ _
of_instruction r bytes (Lbu rd rs1 imm) = of_loads r bytes rd _ _ _
of_instruction r bytes (Lhu rd rs1 imm) = of_loads r bytes rd _ _ _
of_instruction r bytes (Sb rs1 rs2 imm) = of_stores r bytes (address r rs1 imm) 1 (register r rs2) (inl refl)
of_instruction r bytes (Sh rs1 rs2 imm) = of_stores r bytes (address r rs1 imm) 2 (register r rs2) (inr (inl refl))
of_instruction r bytes (Sw rs1 rs2 imm) = of_stores r bytes (address r rs1 imm) 4 (register r rs2) (inr (inr refl))
of_instruction r bytes (Addi rd rs1 imm) = of_gives r bytes rd _
of_instruction r bytes (Slti rd rs1 imm) = of_gives r bytes rd _
of_instruction r bytes (Sltiu rd rs1 imm) = of_gives r bytes rd _
of_instruction r bytes (Xori rd rs1 imm) = of_gives r bytes rd _
of_instruction r bytes (Ori rd rs1 imm) = of_gives r bytes rd _
of_instruction r bytes (Andi rd rs1 imm) = of_gives r bytes rd _
of_instruction r bytes (Slli rd rs1 amount) = of_gives r bytes rd _
of_instruction r bytes (Srli rd rs1 amount) = of_gives r bytes rd _
of_instruction r bytes (Srai rd rs1 amount) = of_gives r bytes rd _
of_instruction r bytes (Add rd rs1 rs2) = of_gives r bytes rd _
of_instruction r bytes (Sub rd rs1 rs2) = of_gives r bytes rd _
of_instruction r bytes (Sll rd rs1 rs2) = of_gives r bytes rd _
of_instruction r bytes (Slt rd rs1 rs2) = of_gives r bytes rd _
of_instruction r bytes (Sltu rd rs1 rs2) = of_gives r bytes rd _
of_instruction r bytes (Xor rd rs1 rs2) = of_gives r bytes rd _
of_instruction r bytes (Srl rd rs1 rs2) = of_gives r bytes rd _
of_instruction r bytes (Sra rd rs1 rs2) = of_gives r bytes rd _
of_instruction r bytes (Or rd rs1 rs2) = of_gives r bytes rd _
of_instruction r bytes (And rd rs1 rs2) = of_gives r bytes rd _
of_instruction r bytes (Mul rd rs1 rs2) = of_gives r bytes rd _
of_instruction r bytes (Mulh rd rs1 rs2) = of_gives r bytes rd _
of_instruction r bytes (Mulhsu rd rs1 rs2) = of_gives r bytes rd _
of_instruction r bytes (Mulhu rd rs1 rs2) = of_gives r bytes rd _
of_instruction r bytes (Div rd rs1 rs2) = of_gives r bytes rd _
of_instruction r bytes (Divu rd rs1 rs2) = of_gives r bytes rd _
of_instruction r bytes (Rem rd rs1 rs2) = of_gives r bytes rd _
of_instruction r bytes (Remu rd rs1 rs2) = of_gives r bytes rd _
of_instruction r bytes (Fence word) = storeless bytes _ _
of_instruction r bytes Ecall = record { store = tt }
of_instruction r bytes Ebreak = traps bytes 3

of_decoded : (r : Regs) (bytes : Bytes) (o : Option Instr) → StoreIsPut bytes (outcome_if r bytes o)
of_decoded r bytes (Some i) = of_instruction r bytes i
of_decoded r bytes None = traps bytes 2

of_fetched : (r : Regs) (bytes : Bytes) (o : Option ℕ) → StoreIsPut bytes (outcome_in r bytes o)
of_fetched r bytes (Some w) = of_decoded r bytes (decode_of w)
of_fetched r bytes None = traps bytes 1

pub outcome_puts : (r : Regs) (bytes : Bytes) (wrote : Option (ℕ × ℕ)) (s : ℕ × ℕ × ℕ) (next : ℕ) → outcome_at r bytes ≡ moves wrote (Some s) next → IsPut bytes s
outcome_puts r bytes wrote s next is = (subst (StoreIsPut bytes) is (of_fetched r bytes (number_at bytes r.pc 4))).store
