-- What holds of the outcome of every instruction.
use Rattle.std.specs.Prelude.{slice_index}
use Rattle.std.proofs.Common.{◌≡◌, ℕ, ◌+◌, ◌*◌, ◌%◌, ◌^◌, ◌<◌, Bool, true, false, Option, Some, None, if◌then◌else◌, ◌==◌, ℤ, arith, refl, sym, subst, inl, inr, get_or-set_other}
use Rattle.std.proofs.lemmas.Bool.{cases_Bool, eqb-true, eqb-false}
use Rattle.std.proofs.lemmas.Nat.{or_lt, xor_lt}
use Rattle.std.specs.Int.Bits.{and_lt}
use Rattle.seq_words.specs.declared.regs.Regs.{Regs}
use Rattle.seq_isa.specs.Decoded.{decode_of}
use Rattle.seq_isa.specs.InRange.{InRange}
use Rattle.seq_isa.specs.Meaning.{Bytes, Outcome, moves, trap, number_at, register, unsigned, written, gives, jumps, branches, loaded, loads, put, stores, following, extended, same, outcome_of, outcome_if, outcome_in, outcome_at, registers_after}
use Rattle.seq_isa.specs.declared.instr.Instr.{Instr}
use Rattle.seq_isa.specs.declared.instr.Instr.TheVariants.{Lui, Auipc, Jal, Jalr, Beq, Bne, Blt, Bge, Bltu, Bgeu, Lb, Lh, Lw, Lbu, Lhu, Sb, Sh, Sw, Addi, Slti, Sltiu, Xori, Ori, Andi, Slli, Srli, Srai, Add, Sub, Sll, Slt, Sltu, Xor, Srl, Sra, Or, And, Mul, Mulh, Mulhsu, Mulhu, Div, Divu, Rem, Remu, Fence, Ecall, Ebreak}
use Rattle.seq_isa.proofs.Agreed.{listing_is_function}
use Rattle.seq_isa.proofs.Ranges.{ranges_in}
use Rattle.seq_rv32.specs.Widths.{IsWidth}
use Rattle.seq_rv32.specs.Outcomes.{IsPut, AreWords, HasBytes, is_word, store_is_put, has_words, isnt_x0, is_plain, IsPlain, OutcomesArePlain, StoreIsPut, StoresArePut, WordsStayWords}
use Rattle.seq_rv32.proofs.Values.{upper_signed, upper_unsigned, shifted_small, product_small, immediate_small, register_small, flag_small, extended_small, divided_small, quotient_small, remainder_small, quotient_unsigned_small, remainder_unsigned_small, number_small}

-- the numbers that an instruction takes
record AreFed (r : Regs) (bytes : Bytes) : Type 0 where
  registers : AreWords r
  memory : HasBytes bytes

-- an outcome fits: it is plain, its store is put where there is a number, and it has numbers of 32 bits where it was fed with such
record IsFit (r : Regs) (bytes : Bytes) (o : Outcome) : Type 0 where
  plain : is_plain o
  store : store_is_put bytes o
  words : AreFed r bytes → has_words o

choice : (r : Regs) (bytes : Bytes) (t : Bool) (x y : Outcome) → (t ≡ true → IsFit r bytes x) → (t ≡ false → IsFit r bytes y) → IsFit r bytes (if t then x else y)
choice r bytes true x y first second = first refl
choice r bytes false x y first second = second refl

traps : (r : Regs) (bytes : Bytes) (cause : ℕ) → cause < 8 → IsFit r bytes (trap cause)
traps r bytes cause few = record { plain = few; store = tt; words = λ _. few }

word_written : (rd value : ℕ) → value < 2 ^ 32 → is_word (written rd value)
word_written rd value small = elim (cases_Bool (rd == 0)) [
  | inl zero ↦ rw zero tt
  | inr other ↦ rw other (eqb-false rd 0 other, small)
]

past_x0 : (rd value : ℕ) → isnt_x0 (written rd value)
past_x0 rd value = elim (cases_Bool (rd == 0)) [
  | inl zero ↦ rw zero tt
  | inr other ↦ rw other (eqb-false rd 0 other)
]

following_small : (r : Regs) → following r < 2 ^ 32
following_small r = omega arith

of_gives : (r : Regs) (bytes : Bytes) (rd value : ℕ) → (AreFed r bytes → value < 2 ^ 32) → IsFit r bytes (gives r rd value)
unfolding gives
of_gives r bytes rd value small = record { plain = past_x0 rd value; store = tt; words = λ fed. (word_written rd value (small fed), following_small r) }

of_jumps : (r : Regs) (bytes : Bytes) (rd target : ℕ) → target < 2 ^ 32 → IsFit r bytes (jumps r rd target)
unfolding jumps
of_jumps r bytes rd target small = choice r bytes (target % 4 == 0) _ _ (λ _. record { plain = past_x0 rd (following r); store = tt; words = λ fed. (word_written rd (following r) (following_small r), small) }) (λ _. traps r bytes 0 (omega arith))

of_branches : (r : Regs) (bytes : Bytes) (taken : Bool) (offset : ℤ) → IsFit r bytes (branches r taken offset)
unfolding branches
of_branches r bytes true offset = choice r bytes ((r.pc + unsigned offset) % 2 ^ 32 % 4 == 0) _ _ (λ _. record { plain = tt; store = tt; words = λ _. (tt, omega arith) }) (λ _. traps r bytes 0 (omega arith))
of_branches r bytes false offset = record { plain = tt; store = tt; words = λ _. (tt, following_small r) }

of_loaded : (r : Regs) (bytes : Bytes) (rd at width : ℕ) (extend : ℕ → ℕ) (o : Option ℕ) → number_at bytes at width ≡ o → ((n : ℕ) → n < 256 ^ width → extend n < 2 ^ 32) → IsFit r bytes (loaded r rd extend o)
of_loaded r bytes rd at width extend (Some n) is small = of_gives r bytes rd (extend n) (λ fed. small n (number_small bytes at width n fed.memory is))
of_loaded r bytes rd at width extend None is small = traps r bytes 5 (omega arith)

of_loads : (r : Regs) (bytes : Bytes) (rd at width : ℕ) (extend : ℕ → ℕ) → ((n : ℕ) → n < 256 ^ width → extend n < 2 ^ 32) → IsFit r bytes (loads r bytes rd at width extend)
unfolding loads
of_loads r bytes rd at width extend small = choice r bytes (at % width == 0) _ _ (λ _. of_loaded r bytes rd at width extend (number_at bytes at width) refl small) (λ _. traps r bytes 4 (omega arith))

of_put : (r : Regs) (bytes : Bytes) (at width value : ℕ) (o : Option ℕ) → IsWidth width → at % width ≡ 0 → number_at bytes at width ≡ o → IsFit r bytes (put r at width value o)
of_put r bytes at width value (Some n) wide aligned there = record { plain = tt; store = record { width = wide; aligned = aligned; before = n; there = there }; words = λ _. (tt, following_small r) }
of_put r bytes at width value None wide aligned there = traps r bytes 7 (omega arith)

of_stores : (r : Regs) (bytes : Bytes) (at width value : ℕ) → IsWidth width → IsFit r bytes (stores r bytes at width value)
unfolding stores
of_stores r bytes at width value wide = choice r bytes (at % width == 0) _ _ (λ t. of_put r bytes at width (value % 2 ^ (8 * width)) (number_at bytes at width) wide (eqb-true _ _ t) refl) (λ _. traps r bytes 6 (omega arith))

-- a register that is fed
fed_register : (r : Regs) (bytes : Bytes) (i : ℕ) → AreFed r bytes → register r i < 2 ^ 32
fed_register r bytes i fed = register_small r i fed.registers

of_instruction : (r : Regs) (bytes : Bytes) (i : Instr) → (AreFed r bytes → InRange i) → IsFit r bytes (outcome_of r bytes i)
unfolding outcome_of
of_instruction r bytes (Lui rd imm) range = of_gives r bytes rd _ (λ fed. let few = (range fed).1 in omega (arith, few))
of_instruction r bytes (Auipc rd imm) range = of_gives r bytes rd _ (λ fed. omega arith)
of_instruction r bytes (Jal rd offset) range = of_jumps r bytes rd _ (omega arith)
of_instruction r bytes (Jalr rd rs1 imm) range = of_jumps r bytes rd _ (omega arith)
of_instruction r bytes (Beq rs1 rs2 offset) range = of_branches r bytes _ offset
of_instruction r bytes (Bne rs1 rs2 offset) range = of_branches r bytes _ offset
of_instruction r bytes (Blt rs1 rs2 offset) range = of_branches r bytes _ offset
of_instruction r bytes (Bge rs1 rs2 offset) range = of_branches r bytes _ offset
of_instruction r bytes (Bltu rs1 rs2 offset) range = of_branches r bytes _ offset
of_instruction r bytes (Bgeu rs1 rs2 offset) range = of_branches r bytes _ offset
of_instruction r bytes (Lb rd rs1 imm) range = of_loads r bytes rd _ 1 (extended 128) (λ n small. extended_small 128 n small (omega arith))
of_instruction r bytes (Lh rd rs1 imm) range = of_loads r bytes rd _ 2 (extended 32768) (λ n small. extended_small 32768 n small (omega arith))
of_instruction r bytes (Lw rd rs1 imm) range = of_loads r bytes rd _ 4 same (λ n small. small)
of_instruction r bytes (Lbu rd rs1 imm) range = of_loads r bytes rd _ 1 same (λ n small. omega (arith, small))
of_instruction r bytes (Lhu rd rs1 imm) range = of_loads r bytes rd _ 2 same (λ n small. omega (arith, small))
of_instruction r bytes (Sb rs1 rs2 imm) range = of_stores r bytes _ 1 _ (inl refl)
of_instruction r bytes (Sh rs1 rs2 imm) range = of_stores r bytes _ 2 _ (inr (inl refl))
of_instruction r bytes (Sw rs1 rs2 imm) range = of_stores r bytes _ 4 _ (inr (inr refl))
of_instruction r bytes (Addi rd rs1 imm) range = of_gives r bytes rd _ (λ fed. omega arith)
of_instruction r bytes (Slti rd rs1 imm) range = of_gives r bytes rd _ (λ fed. flag_small _)
of_instruction r bytes (Sltiu rd rs1 imm) range = of_gives r bytes rd _ (λ fed. flag_small _)
of_instruction r bytes (Xori rd rs1 imm) range = of_gives r bytes rd _ (λ fed. xor_lt 32 _ _ (fed_register r bytes rs1 fed) (immediate_small imm (range fed).2))
of_instruction r bytes (Ori rd rs1 imm) range = of_gives r bytes rd _ (λ fed. or_lt 32 _ _ (fed_register r bytes rs1 fed) (immediate_small imm (range fed).2))
of_instruction r bytes (Andi rd rs1 imm) range = of_gives r bytes rd _ (λ fed. and_lt 32 _ _ (fed_register r bytes rs1 fed) (immediate_small imm (range fed).2))
of_instruction r bytes (Slli rd rs1 amount) range = of_gives r bytes rd _ (λ fed. omega arith)
of_instruction r bytes (Srli rd rs1 amount) range = of_gives r bytes rd _ (λ fed. divided_small _ _ (fed_register r bytes rs1 fed))
of_instruction r bytes (Srai rd rs1 amount) range = of_gives r bytes rd _ (λ fed. shifted_small _ _)
of_instruction r bytes (Add rd rs1 rs2) range = of_gives r bytes rd _ (λ fed. omega arith)
of_instruction r bytes (Sub rd rs1 rs2) range = of_gives r bytes rd _ (λ fed. omega arith)
of_instruction r bytes (Sll rd rs1 rs2) range = of_gives r bytes rd _ (λ fed. omega arith)
of_instruction r bytes (Slt rd rs1 rs2) range = of_gives r bytes rd _ (λ fed. flag_small _)
of_instruction r bytes (Sltu rd rs1 rs2) range = of_gives r bytes rd _ (λ fed. flag_small _)
of_instruction r bytes (Xor rd rs1 rs2) range = of_gives r bytes rd _ (λ fed. xor_lt 32 _ _ (fed_register r bytes rs1 fed) (fed_register r bytes rs2 fed))
of_instruction r bytes (Srl rd rs1 rs2) range = of_gives r bytes rd _ (λ fed. divided_small _ _ (fed_register r bytes rs1 fed))
of_instruction r bytes (Sra rd rs1 rs2) range = of_gives r bytes rd _ (λ fed. shifted_small _ _)
of_instruction r bytes (Or rd rs1 rs2) range = of_gives r bytes rd _ (λ fed. or_lt 32 _ _ (fed_register r bytes rs1 fed) (fed_register r bytes rs2 fed))
of_instruction r bytes (And rd rs1 rs2) range = of_gives r bytes rd _ (λ fed. and_lt 32 _ _ (fed_register r bytes rs1 fed) (fed_register r bytes rs2 fed))
of_instruction r bytes (Mul rd rs1 rs2) range = of_gives r bytes rd _ (λ fed. omega arith)
of_instruction r bytes (Mulh rd rs1 rs2) range = of_gives r bytes rd _ (λ fed. upper_signed (register r rs1) (register r rs2))
of_instruction r bytes (Mulhsu rd rs1 rs2) range = of_gives r bytes rd _ (λ fed. upper_unsigned (register r rs1) (register r rs2) (fed_register r bytes rs2 fed))
of_instruction r bytes (Mulhu rd rs1 rs2) range = of_gives r bytes rd _ (λ fed. let a = (fed_register r bytes rs1 fed) in let b = (fed_register r bytes rs2 fed) in product_small _ _ a b)
of_instruction r bytes (Div rd rs1 rs2) range = of_gives r bytes rd _ (λ fed. quotient_small _ _)
of_instruction r bytes (Divu rd rs1 rs2) range = of_gives r bytes rd _ (λ fed. quotient_unsigned_small _ _ (fed_register r bytes rs1 fed))
of_instruction r bytes (Rem rd rs1 rs2) range = of_gives r bytes rd _ (λ fed. remainder_small _ _ (fed_register r bytes rs1 fed))
of_instruction r bytes (Remu rd rs1 rs2) range = of_gives r bytes rd _ (λ fed. remainder_unsigned_small _ _ (fed_register r bytes rs1 fed))
of_instruction r bytes (Fence word) range = record { plain = tt; store = tt; words = λ _. (tt, following_small r) }
of_instruction r bytes Ecall range = record { plain = tt; store = tt; words = λ _. tt }
of_instruction r bytes Ebreak range = traps r bytes 3 (omega arith)

of_decoded : (r : Regs) (bytes : Bytes) (o : Option Instr) → (AreFed r bytes → (i : Instr) → o ≡ Some i → InRange i) → IsFit r bytes (outcome_if r bytes o)
of_decoded r bytes (Some i) range = of_instruction r bytes i (λ fed. range fed i refl)
of_decoded r bytes None range = traps r bytes 2 (omega arith)

of_fetched : (r : Regs) (bytes : Bytes) (o : Option ℕ) → number_at bytes r.pc 4 ≡ o → IsFit r bytes (outcome_in r bytes o)
of_fetched r bytes (Some w) is = of_decoded r bytes (decode_of w) (λ fed i found. ranges_in w (number_small bytes r.pc 4 w fed.memory is) i ((listing_is_function w i).1 found))
of_fetched r bytes None is = traps r bytes 1 (omega arith)

outcome_fits : (r : Regs) (bytes : Bytes) → IsFit r bytes (outcome_at r bytes)
outcome_fits r bytes = of_fetched r bytes (number_at bytes r.pc 4) refl

pub stores_are_put : StoresArePut
stores_are_put r bytes = record { store = (outcome_fits r bytes).store }

pub outcomes_are_plain : OutcomesArePlain
outcomes_are_plain r bytes = record { plain = (outcome_fits r bytes).plain }

pub words_stay_words : WordsStayWords
words_stay_words r bytes registers memory = record { words = (outcome_fits r bytes).words (record { registers = registers; memory = memory }) }

-- the store of an outcome
pub outcome_puts : (r : Regs) (bytes : Bytes) (wrote : Option (ℕ × ℕ)) (s : ℕ × ℕ × ℕ) (next : ℕ) → outcome_at r bytes ≡ moves wrote (Some s) next → IsPut bytes s
outcome_puts r bytes wrote s next is = (subst (StoreIsPut bytes) is (stores_are_put r bytes)).store

-- the cause of a trap
pub cause_few : (r : Regs) (bytes : Bytes) (cause : ℕ) → outcome_at r bytes ≡ trap cause → cause < 8
cause_few r bytes cause is = (subst IsPlain is (outcomes_are_plain r bytes)).plain

-- x0 is as it was after an instruction
x0_after : (r : Regs) (wrote : Option (ℕ × ℕ)) (next : ℕ) → isnt_x0 wrote → slice_index (registers_after r wrote next).x 0 ≡ slice_index r.x 0
x0_after r (Some w) next other = get_or-set_other r.x w.0 0 w.1 0 (λ e. other (sym e))
x0_after r None next other = refl

pub outcome_keeps_zero : (r : Regs) (bytes : Bytes) (wrote : Option (ℕ × ℕ)) (store : Option (ℕ × ℕ × ℕ)) (next : ℕ) → outcome_at r bytes ≡ moves wrote store next → slice_index (registers_after r wrote next).x 0 ≡ slice_index r.x 0
outcome_keeps_zero r bytes wrote store next is = x0_after r wrote next (subst IsPlain is (outcomes_are_plain r bytes)).plain
