-- Which registers each instruction reads.
use Rattle.std.proofs.Common.{◌≡◌, ℕ, ◌+◌, ◌-◌, ◌*◌, ◌/◌, ◌%◌, ◌^◌, Bool, true, false, if◌then◌else◌, ◌==◌, ℤ, Option, Some, None, IfSome, refl, ap, not, ◌*ℤ◌, pos, int_lt, nat_lt, bit_and, bit_or, bit_xor}
use Rattle.seq_words.specs.declared.regs.Regs.{Regs}
use Rattle.seq_isa.specs.Table.{StandsFor, rs1_of, rs2_of}
use Rattle.seq_isa.specs.Decoded.{decode_of}
use Rattle.seq_isa.proofs.Agreed.{found_from_decode_of}
use Rattle.seq_isa.specs.Meaning.{Bytes, Outcome, outcome_if, register, signed, unsigned, address, number_at, gives, jumps, branches, loaded, loads, put, stores, outcome_of, extended, same, flag, upper, shifted_left, shifted_right, shifted_signed, quotient, quotient_unsigned, remainder, remainder_unsigned}
use Rattle.seq_isa.specs.declared.instr.Instr.{Instr}
use Rattle.seq_isa.specs.declared.instr.Instr.TheVariants.{Lui, Auipc, Jal, Jalr, Beq, Bne, Blt, Bge, Bltu, Bgeu, Lb, Lh, Lw, Lbu, Lhu, Sb, Sh, Sw, Addi, Slti, Sltiu, Xori, Ori, Andi, Slli, Srli, Srai, Add, Sub, Sll, Slt, Sltu, Xor, Srl, Sra, Or, And, Mul, Mulh, Mulhsu, Mulhu, Div, Divu, Rem, Remu, Fence, Ecall, Ebreak}
use Rattle.seq_rv32.specs.Sources.{HoldAlike, sources_of, ReadsOnly, InstructionsReadSources}

ap2 : {A B C : Type 0} (f : A → B → C) (a c : A) (b e : B) → a ≡ c → b ≡ e → f a b ≡ f c e
ap2 f a c b e h k = rw (h, k) refl

gives_alike : (a b : Regs) (rd v w : ℕ) → a.pc ≡ b.pc → v ≡ w → gives a rd v ≡ gives b rd w
unfolding gives
gives_alike a b rd v w pc h = rw (pc, h) refl

jumps_alike : (a b : Regs) (rd v w : ℕ) → a.pc ≡ b.pc → v ≡ w → jumps a rd v ≡ jumps b rd w
unfolding jumps
jumps_alike a b rd v w pc h = rw (pc, h) refl

branches_alike : (a b : Regs) (s t : Bool) (offset : ℤ) → a.pc ≡ b.pc → s ≡ t → branches a s offset ≡ branches b t offset
unfolding branches
branches_alike a b s t offset pc h = rw (pc, h) refl

address_alike : (a b : Regs) (rs1 : ℕ) (imm : ℤ) → register a rs1 ≡ register b rs1 → address a rs1 imm ≡ address b rs1 imm
address_alike a b rs1 imm h = ap (λ x. (x + unsigned imm) % 2 ^ 32) h

choice : (t : Bool) (x y z : Outcome) → x ≡ y → (if t then x else z) ≡ (if t then y else z)
choice true x y z h = h
choice false x y z h = refl

loaded_alike : (a b : Regs) (rd : ℕ) (extend : ℕ → ℕ) → a.pc ≡ b.pc → (n : Option ℕ) → loaded a rd extend n ≡ loaded b rd extend n
loaded_alike a b rd extend pc (Some n) = gives_alike a b rd (extend n) (extend n) pc refl
loaded_alike a b rd extend pc None = refl

put_alike : (a b : Regs) (at width value : ℕ) → a.pc ≡ b.pc → (n : Option ℕ) → put a at width value n ≡ put b at width value n
put_alike a b at width value pc (Some n) = rw pc refl
put_alike a b at width value pc None = refl

loads_alike : (a b : Regs) (bytes : Bytes) (rd at to width : ℕ) (extend : ℕ → ℕ) → a.pc ≡ b.pc → at ≡ to → loads a bytes rd at width extend ≡ loads b bytes rd to width extend
unfolding loads
loads_alike a b bytes rd at to width extend pc h = rw h (choice (to % width == 0) _ _ _ (loaded_alike a b rd extend pc (number_at bytes to width)))

stores_alike : (a b : Regs) (bytes : Bytes) (at to width v w : ℕ) → a.pc ≡ b.pc → at ≡ to → v ≡ w → stores a bytes at width v ≡ stores b bytes to width w
unfolding stores
stores_alike a b bytes at to width v w pc h k = rw (h, k) (choice (to % width == 0) _ _ _ (put_alike a b to width (w % 2 ^ (8 * width)) pc (number_at bytes to width)))

-- the value that an instruction gives is one of one or two registers
of_one : (i : Instr) (rd rs1 : ℕ) (f : ℕ → ℕ) → ((r : Regs) (bytes : Bytes) → outcome_of r bytes i ≡ gives r rd (f (register r rs1))) → ReadsOnly i rs1 0
of_one i rd rs1 f is = record { alike = λ a b bytes h. rw (is a bytes, is b bytes) (gives_alike a b rd _ _ h.pc (ap f h.first)) }

of_two : (i : Instr) (rd rs1 rs2 : ℕ) (f : ℕ → ℕ → ℕ) → ((r : Regs) (bytes : Bytes) → outcome_of r bytes i ≡ gives r rd (f (register r rs1) (register r rs2))) → ReadsOnly i rs1 rs2
of_two i rd rs1 rs2 f is = record { alike = λ a b bytes h. rw (is a bytes, is b bytes) (gives_alike a b rd _ _ h.pc (ap2 f _ _ _ _ h.first h.second)) }

of_branch : (i : Instr) (rs1 rs2 : ℕ) (offset : ℤ) (f : ℕ → ℕ → Bool) → ((r : Regs) (bytes : Bytes) → outcome_of r bytes i ≡ branches r (f (register r rs1) (register r rs2)) offset) → ReadsOnly i rs1 rs2
of_branch i rs1 rs2 offset f is = record { alike = λ a b bytes h. rw (is a bytes, is b bytes) (branches_alike a b _ _ offset h.pc (ap2 f _ _ _ _ h.first h.second)) }

of_load : (i : Instr) (rd rs1 width : ℕ) (imm : ℤ) (extend : ℕ → ℕ) → ((r : Regs) (bytes : Bytes) → outcome_of r bytes i ≡ loads r bytes rd (address r rs1 imm) width extend) → ReadsOnly i rs1 0
of_load i rd rs1 width imm extend is = record { alike = λ a b bytes h. rw (is a bytes, is b bytes) (loads_alike a b bytes rd _ _ width extend h.pc (address_alike a b rs1 imm h.first)) }

of_store : (i : Instr) (rs1 rs2 width : ℕ) (imm : ℤ) → ((r : Regs) (bytes : Bytes) → outcome_of r bytes i ≡ stores r bytes (address r rs1 imm) width (register r rs2)) → ReadsOnly i rs1 rs2
of_store i rs1 rs2 width imm is = record { alike = λ a b bytes h. rw (is a bytes, is b bytes) (stores_alike a b bytes _ _ width _ _ h.pc (address_alike a b rs1 imm h.first) h.second) }

-- each instruction reads these alone
pub reads_only : InstructionsReadSources
unfolding outcome_of
reads_only (Lui rd imm) = record { alike = λ a b bytes h. gives_alike a b rd _ _ h.pc refl }
reads_only (Auipc rd imm) = record { alike = λ a b bytes h. gives_alike a b rd _ _ h.pc (ap (λ x. (x + imm * 4096) % 2 ^ 32) h.pc) }
reads_only (Jal rd imm) = record { alike = λ a b bytes h. jumps_alike a b rd _ _ h.pc (ap (λ x. (x + unsigned imm) % 2 ^ 32) h.pc) }
reads_only (Jalr rd rs1 imm) = record { alike = λ a b bytes h. jumps_alike a b rd _ _ h.pc (ap (λ x. x - x % 2) (address_alike a b rs1 imm h.first)) }
reads_only (Beq rs1 rs2 offset) = of_branch (Beq rs1 rs2 offset) rs1 rs2 offset (λ v w. v == w) (λ r bytes. refl)
reads_only (Bne rs1 rs2 offset) = of_branch (Bne rs1 rs2 offset) rs1 rs2 offset (λ v w. not (v == w)) (λ r bytes. refl)
reads_only (Blt rs1 rs2 offset) = of_branch (Blt rs1 rs2 offset) rs1 rs2 offset (λ v w. int_lt (signed v) (signed w)) (λ r bytes. refl)
reads_only (Bge rs1 rs2 offset) = of_branch (Bge rs1 rs2 offset) rs1 rs2 offset (λ v w. not (int_lt (signed v) (signed w))) (λ r bytes. refl)
reads_only (Bltu rs1 rs2 offset) = of_branch (Bltu rs1 rs2 offset) rs1 rs2 offset (nat_lt) (λ r bytes. refl)
reads_only (Bgeu rs1 rs2 offset) = of_branch (Bgeu rs1 rs2 offset) rs1 rs2 offset (λ v w. not (nat_lt v w)) (λ r bytes. refl)
reads_only (Lb rd rs1 imm) = of_load (Lb rd rs1 imm) rd rs1 1 imm (extended 128) (λ r bytes. refl)
reads_only (Lh rd rs1 imm) = of_load (Lh rd rs1 imm) rd rs1 2 imm (extended 32768) (λ r bytes. refl)
reads_only (Lw rd rs1 imm) = of_load (Lw rd rs1 imm) rd rs1 4 imm same (λ r bytes. refl)
reads_only (Lbu rd rs1 imm) = of_load (Lbu rd rs1 imm) rd rs1 1 imm same (λ r bytes. refl)
reads_only (Lhu rd rs1 imm) = of_load (Lhu rd rs1 imm) rd rs1 2 imm same (λ r bytes. refl)
reads_only (Sb rs1 rs2 imm) = of_store (Sb rs1 rs2 imm) rs1 rs2 1 imm (λ r bytes. refl)
reads_only (Sh rs1 rs2 imm) = of_store (Sh rs1 rs2 imm) rs1 rs2 2 imm (λ r bytes. refl)
reads_only (Sw rs1 rs2 imm) = of_store (Sw rs1 rs2 imm) rs1 rs2 4 imm (λ r bytes. refl)
reads_only (Addi rd rs1 imm) = of_one (Addi rd rs1 imm) rd rs1 (λ v. (v + unsigned imm) % 2 ^ 32) (λ r bytes. refl)
reads_only (Slti rd rs1 imm) = of_one (Slti rd rs1 imm) rd rs1 (λ v. flag (int_lt (signed v) imm)) (λ r bytes. refl)
reads_only (Sltiu rd rs1 imm) = of_one (Sltiu rd rs1 imm) rd rs1 (λ v. flag (nat_lt v (unsigned imm))) (λ r bytes. refl)
reads_only (Xori rd rs1 imm) = of_one (Xori rd rs1 imm) rd rs1 (λ v. bit_xor v (unsigned imm)) (λ r bytes. refl)
reads_only (Ori rd rs1 imm) = of_one (Ori rd rs1 imm) rd rs1 (λ v. bit_or v (unsigned imm)) (λ r bytes. refl)
reads_only (Andi rd rs1 imm) = of_one (Andi rd rs1 imm) rd rs1 (λ v. bit_and v (unsigned imm)) (λ r bytes. refl)
reads_only (Slli rd rs1 imm) = of_one (Slli rd rs1 imm) rd rs1 (λ v. shifted_left v imm) (λ r bytes. refl)
reads_only (Srli rd rs1 imm) = of_one (Srli rd rs1 imm) rd rs1 (λ v. shifted_right v imm) (λ r bytes. refl)
reads_only (Srai rd rs1 imm) = of_one (Srai rd rs1 imm) rd rs1 (λ v. shifted_signed v imm) (λ r bytes. refl)
reads_only (Add rd rs1 rs2) = of_two (Add rd rs1 rs2) rd rs1 rs2 (λ v w. (v + w) % 2 ^ 32) (λ r bytes. refl)
reads_only (Sub rd rs1 rs2) = of_two (Sub rd rs1 rs2) rd rs1 rs2 (λ v w. (v + (2 ^ 32 - w)) % 2 ^ 32) (λ r bytes. refl)
reads_only (Sll rd rs1 rs2) = of_two (Sll rd rs1 rs2) rd rs1 rs2 (λ v w. shifted_left v (w % 32)) (λ r bytes. refl)
reads_only (Slt rd rs1 rs2) = of_two (Slt rd rs1 rs2) rd rs1 rs2 (λ v w. flag (int_lt (signed v) (signed w))) (λ r bytes. refl)
reads_only (Sltu rd rs1 rs2) = of_two (Sltu rd rs1 rs2) rd rs1 rs2 (λ v w. flag (nat_lt v w)) (λ r bytes. refl)
reads_only (Xor rd rs1 rs2) = of_two (Xor rd rs1 rs2) rd rs1 rs2 (bit_xor) (λ r bytes. refl)
reads_only (Srl rd rs1 rs2) = of_two (Srl rd rs1 rs2) rd rs1 rs2 (λ v w. shifted_right v (w % 32)) (λ r bytes. refl)
reads_only (Sra rd rs1 rs2) = of_two (Sra rd rs1 rs2) rd rs1 rs2 (λ v w. shifted_signed v (w % 32)) (λ r bytes. refl)
reads_only (Or rd rs1 rs2) = of_two (Or rd rs1 rs2) rd rs1 rs2 (bit_or) (λ r bytes. refl)
reads_only (And rd rs1 rs2) = of_two (And rd rs1 rs2) rd rs1 rs2 (bit_and) (λ r bytes. refl)
reads_only (Mul rd rs1 rs2) = of_two (Mul rd rs1 rs2) rd rs1 rs2 (λ v w. v * w % 2 ^ 32) (λ r bytes. refl)
reads_only (Mulh rd rs1 rs2) = of_two (Mulh rd rs1 rs2) rd rs1 rs2 (λ v w. upper (signed v *ℤ signed w)) (λ r bytes. refl)
reads_only (Mulhsu rd rs1 rs2) = of_two (Mulhsu rd rs1 rs2) rd rs1 rs2 (λ v w. upper (signed v *ℤ pos w)) (λ r bytes. refl)
reads_only (Mulhu rd rs1 rs2) = of_two (Mulhu rd rs1 rs2) rd rs1 rs2 (λ v w. v * w / 2 ^ 32) (λ r bytes. refl)
reads_only (Div rd rs1 rs2) = of_two (Div rd rs1 rs2) rd rs1 rs2 (quotient) (λ r bytes. refl)
reads_only (Divu rd rs1 rs2) = of_two (Divu rd rs1 rs2) rd rs1 rs2 (quotient_unsigned) (λ r bytes. refl)
reads_only (Rem rd rs1 rs2) = of_two (Rem rd rs1 rs2) rd rs1 rs2 (remainder) (λ r bytes. refl)
reads_only (Remu rd rs1 rs2) = of_two (Remu rd rs1 rs2) rd rs1 rs2 (remainder_unsigned) (λ r bytes. refl)
reads_only (Fence word) = record { alike = λ a b bytes h. rw h.pc refl }
reads_only Ecall = record { alike = λ a b bytes h. refl }
reads_only Ebreak = record { alike = λ a b bytes h. refl }

-- so two register sets that hold the same in these have one outcome
outcomes_alike : (i : Instr) (a b : Regs) → HoldAlike a b (sources_of i).0 (sources_of i).1 → (bytes : Bytes) → outcome_of a bytes i ≡ outcome_of b bytes i
outcomes_alike i a b h bytes = (reads_only i).alike a b bytes h

-- registers that hold the same in two registers do so in none of them, in the first alone and in both
no_source : (a b : Regs) → a.pc ≡ b.pc → HoldAlike a b 0 0
no_source a b pc = record { pc = pc; first = refl; second = refl }

one_source : (a b : Regs) (rs1 i j : ℕ) → rs1 ≡ i → HoldAlike a b i j → HoldAlike a b rs1 0
one_source a b rs1 i j e h = record { pc = h.pc; first = rw e h.first; second = refl }

two_sources : (a b : Regs) (rs1 rs2 i j : ℕ) → rs1 ≡ i → rs2 ≡ j → HoldAlike a b i j → HoldAlike a b rs1 rs2
two_sources a b rs1 rs2 i j e f h = record { pc = h.pc; first = rw e h.first; second = rw f h.second }

-- the registers that an instruction reads are among those that its word names
names_sources : (w : ℕ) (i : Instr) (a b : Regs) → StandsFor w i → HoldAlike a b (rs1_of w) (rs2_of w) → HoldAlike a b (sources_of i).0 (sources_of i).1
names_sources w (Lui rd imm) a b s h = no_source a b h.pc
names_sources w (Auipc rd imm) a b s h = no_source a b h.pc
names_sources w (Jal rd imm) a b s h = no_source a b h.pc
names_sources w (Jalr rd rs1 imm) a b s h = one_source a b _ _ _ s.rs1_is h
names_sources w (Beq rs1 rs2 offset) a b s h = two_sources a b _ _ _ _ s.rs1_is s.rs2_is h
names_sources w (Bne rs1 rs2 offset) a b s h = two_sources a b _ _ _ _ s.rs1_is s.rs2_is h
names_sources w (Blt rs1 rs2 offset) a b s h = two_sources a b _ _ _ _ s.rs1_is s.rs2_is h
names_sources w (Bge rs1 rs2 offset) a b s h = two_sources a b _ _ _ _ s.rs1_is s.rs2_is h
names_sources w (Bltu rs1 rs2 offset) a b s h = two_sources a b _ _ _ _ s.rs1_is s.rs2_is h
names_sources w (Bgeu rs1 rs2 offset) a b s h = two_sources a b _ _ _ _ s.rs1_is s.rs2_is h
names_sources w (Lb rd rs1 imm) a b s h = one_source a b _ _ _ s.rs1_is h
names_sources w (Lh rd rs1 imm) a b s h = one_source a b _ _ _ s.rs1_is h
names_sources w (Lw rd rs1 imm) a b s h = one_source a b _ _ _ s.rs1_is h
names_sources w (Lbu rd rs1 imm) a b s h = one_source a b _ _ _ s.rs1_is h
names_sources w (Lhu rd rs1 imm) a b s h = one_source a b _ _ _ s.rs1_is h
names_sources w (Sb rs1 rs2 imm) a b s h = two_sources a b _ _ _ _ s.rs1_is s.rs2_is h
names_sources w (Sh rs1 rs2 imm) a b s h = two_sources a b _ _ _ _ s.rs1_is s.rs2_is h
names_sources w (Sw rs1 rs2 imm) a b s h = two_sources a b _ _ _ _ s.rs1_is s.rs2_is h
names_sources w (Addi rd rs1 imm) a b s h = one_source a b _ _ _ s.rs1_is h
names_sources w (Slti rd rs1 imm) a b s h = one_source a b _ _ _ s.rs1_is h
names_sources w (Sltiu rd rs1 imm) a b s h = one_source a b _ _ _ s.rs1_is h
names_sources w (Xori rd rs1 imm) a b s h = one_source a b _ _ _ s.rs1_is h
names_sources w (Ori rd rs1 imm) a b s h = one_source a b _ _ _ s.rs1_is h
names_sources w (Andi rd rs1 imm) a b s h = one_source a b _ _ _ s.rs1_is h
names_sources w (Slli rd rs1 imm) a b s h = one_source a b _ _ _ s.rs1_is h
names_sources w (Srli rd rs1 imm) a b s h = one_source a b _ _ _ s.rs1_is h
names_sources w (Srai rd rs1 imm) a b s h = one_source a b _ _ _ s.rs1_is h
names_sources w (Add rd rs1 rs2) a b s h = two_sources a b _ _ _ _ s.rs1_is s.rs2_is h
names_sources w (Sub rd rs1 rs2) a b s h = two_sources a b _ _ _ _ s.rs1_is s.rs2_is h
names_sources w (Sll rd rs1 rs2) a b s h = two_sources a b _ _ _ _ s.rs1_is s.rs2_is h
names_sources w (Slt rd rs1 rs2) a b s h = two_sources a b _ _ _ _ s.rs1_is s.rs2_is h
names_sources w (Sltu rd rs1 rs2) a b s h = two_sources a b _ _ _ _ s.rs1_is s.rs2_is h
names_sources w (Xor rd rs1 rs2) a b s h = two_sources a b _ _ _ _ s.rs1_is s.rs2_is h
names_sources w (Srl rd rs1 rs2) a b s h = two_sources a b _ _ _ _ s.rs1_is s.rs2_is h
names_sources w (Sra rd rs1 rs2) a b s h = two_sources a b _ _ _ _ s.rs1_is s.rs2_is h
names_sources w (Or rd rs1 rs2) a b s h = two_sources a b _ _ _ _ s.rs1_is s.rs2_is h
names_sources w (And rd rs1 rs2) a b s h = two_sources a b _ _ _ _ s.rs1_is s.rs2_is h
names_sources w (Mul rd rs1 rs2) a b s h = two_sources a b _ _ _ _ s.rs1_is s.rs2_is h
names_sources w (Mulh rd rs1 rs2) a b s h = two_sources a b _ _ _ _ s.rs1_is s.rs2_is h
names_sources w (Mulhsu rd rs1 rs2) a b s h = two_sources a b _ _ _ _ s.rs1_is s.rs2_is h
names_sources w (Mulhu rd rs1 rs2) a b s h = two_sources a b _ _ _ _ s.rs1_is s.rs2_is h
names_sources w (Div rd rs1 rs2) a b s h = two_sources a b _ _ _ _ s.rs1_is s.rs2_is h
names_sources w (Divu rd rs1 rs2) a b s h = two_sources a b _ _ _ _ s.rs1_is s.rs2_is h
names_sources w (Rem rd rs1 rs2) a b s h = two_sources a b _ _ _ _ s.rs1_is s.rs2_is h
names_sources w (Remu rd rs1 rs2) a b s h = two_sources a b _ _ _ _ s.rs1_is s.rs2_is h
names_sources w (Fence word) a b s h = no_source a b h.pc
names_sources w Ecall a b s h = no_source a b h.pc
names_sources w Ebreak a b s h = no_source a b h.pc

word_alike : (w : ℕ) (a b : Regs) (bytes : Bytes) (o : Option Instr) → IfSome o (StandsFor w) → HoldAlike a b (rs1_of w) (rs2_of w) → outcome_if a bytes o ≡ outcome_if b bytes o
word_alike w a b bytes (Some i) s h = outcomes_alike i a b (names_sources w i a b s h) bytes
word_alike w a b bytes None s h = refl

-- so two register sets that hold the same in the registers that a word names have one outcome of it
pub words_alike : (w : ℕ) (a b : Regs) → HoldAlike a b (rs1_of w) (rs2_of w) → (bytes : Bytes) → outcome_if a bytes (decode_of w) ≡ outcome_if b bytes (decode_of w)
words_alike w a b h bytes = word_alike w a b bytes (decode_of w) (found_from_decode_of w (decode_of w) refl) h
