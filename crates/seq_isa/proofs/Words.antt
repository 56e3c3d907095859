-- Each instruction in range has exactly one word.
use Rattle.std.proofs.Common.{◌≡◌, ℕ, suc, ◌+◌, ◌-◌, ◌*◌, ◌/◌, ◌%◌, ◌<◌, ◌^◌, ℤ, pos, negsuc, Option, Some, None, IfSome, IsSome, ◌↔◌, arith, refl, sym, lit<, ◌∙◌, ap}
use Rattle.std.proofs.lemmas.Int.{ints}
use Rattle.seq_isa.specs.Table.{StandsFor, IsR, IsI, IsS, IsB, IsU, IsJ, bits, opcode_of, rd_of, funct3_of, rs1_of, rs2_of, funct7_of, sign_extended}
use Rattle.seq_isa.specs.InRange.{InRange, IsImmediate, IsOffset}
use Rattle.seq_isa.specs.Laws.{IsOnlyWord}
use Rattle.seq_isa.proofs.Immediates.{jump_bits_of}
use Rattle.seq_isa.proofs.Ranges.{ranges_in}
use Rattle.seq_isa.specs.declared.instr.Instr.{Instr}
use Rattle.seq_isa.specs.declared.instr.Instr.TheVariants.{Lui, Auipc, Jal, Jalr, Beq, Bne, Blt, Bge, Bltu, Bgeu, Lb, Lh, Lw, Lbu, Lhu, Sb, Sh, Sw, Addi, Slti, Sltiu, Xori, Ori, Andi, Slli, Srli, Srai, Add, Sub, Sll, Slt, Sltu, Xor, Srl, Sra, Or, And, Mul, Mulh, Mulhsu, Mulhu, Div, Divu, Rem, Remu, Fence, Ecall, Ebreak}

-- a word below 2 ^ 32 is its fields
word_is_fields : (w v : ℕ) → w < 2 ^ 32 → v < 2 ^ 32 → opcode_of w ≡ opcode_of v → rd_of w ≡ rd_of v → funct3_of w ≡ funct3_of v → rs1_of w ≡ rs1_of v → rs2_of w ≡ rs2_of v → funct7_of w ≡ funct7_of v → w ≡ v
word_is_fields w v a b opcode rd funct3 rs1 rs2 funct7 = omega arith

-- bits are told by the number that they are in two's complement
same_12 : (m n : ℕ) → m < 4096 → n < 4096 → sign_extended 12 m ≡ sign_extended 12 n → m ≡ n
same_12 m n a b e = grind (arith, ints)

same_13 : (m n : ℕ) → m < 8192 → n < 8192 → sign_extended 13 m ≡ sign_extended 13 n → m ≡ n
same_13 m n a b e = grind (arith, ints)

same_21 : (m n : ℕ) → m < 2097152 → n < 2097152 → sign_extended 21 m ≡ sign_extended 21 n → m ≡ n
same_21 m n a b e = grind (arith, ints)

-- two words of one row
one_r : (w v op f3 f7 rd rs1 rs2 : ℕ) → w < 2 ^ 32 → v < 2 ^ 32 → IsR w op f3 f7 rd rs1 rs2 → IsR v op f3 f7 rd rs1 rs2 → w ≡ v
one_r w v op f3 f7 rd rs1 rs2 a b h k =
    word_is_fields w v a b (h.opcode_is ∙ sym k.opcode_is) (sym h.rd_is ∙ k.rd_is) (h.funct3_is ∙ sym k.funct3_is) (sym h.rs1_is ∙ k.rs1_is) (sym h.rs2_is ∙ k.rs2_is) (h.funct7_is ∙ sym k.funct7_is)

one_i : (w v op f3 rd rs1 : ℕ) (imm : ℤ) → w < 2 ^ 32 → v < 2 ^ 32 → IsI w op f3 rd rs1 imm → IsI v op f3 rd rs1 imm → w ≡ v
one_i w v op f3 rd rs1 imm a b h k =
    let e : bits w 31 20 ≡ bits v 31 20 = same_12 _ _ (omega arith) (omega arith) (sym h.imm_is ∙ k.imm_is) in
    omega arith

one_s : (w v op f3 rs1 rs2 : ℕ) (imm : ℤ) → w < 2 ^ 32 → v < 2 ^ 32 → IsS w op f3 rs1 rs2 imm → IsS v op f3 rs1 rs2 imm → w ≡ v
one_s w v op f3 rs1 rs2 imm a b h k =
    let e : bits w 11 7 + 2 ^ 5 * bits w 31 25 ≡ bits v 11 7 + 2 ^ 5 * bits v 31 25 = same_12 _ _ (omega arith) (omega arith) (sym h.imm_is ∙ k.imm_is) in
    let low : bits w 11 7 ≡ bits v 11 7 = omega arith in
    omega arith

one_b : (w v op f3 rs1 rs2 : ℕ) (offset : ℤ) → w < 2 ^ 32 → v < 2 ^ 32 → IsB w op f3 rs1 rs2 offset → IsB v op f3 rs1 rs2 offset → w ≡ v
one_b w v op f3 rs1 rs2 offset a b h k =
    let e : 2 * bits w 11 8 + 2 ^ 5 * bits w 30 25 + 2 ^ 11 * bits w 7 7 + 2 ^ 12 * bits w 31 31 ≡ 2 * bits v 11 8 + 2 ^ 5 * bits v 30 25 + 2 ^ 11 * bits v 7 7 + 2 ^ 12 * bits v 31 31 = same_13 _ _ (omega arith) (omega arith) (sym h.offset_is ∙ k.offset_is) in
    let low : bits w 11 8 ≡ bits v 11 8 = omega arith in
    let middle : bits w 30 25 ≡ bits v 30 25 = omega arith in
    let high : bits w 7 7 ≡ bits v 7 7 = omega arith in
    let top : bits w 31 31 ≡ bits v 31 31 = omega arith in
    omega arith

one_u : (w v op rd imm : ℕ) → w < 2 ^ 32 → v < 2 ^ 32 → IsU w op rd imm → IsU v op rd imm → w ≡ v
one_u w v op rd imm a b h k = omega arith

one_j : (w v op rd : ℕ) (offset : ℤ) → w < 2 ^ 32 → v < 2 ^ 32 → IsJ w op rd offset → IsJ v op rd offset → w ≡ v
one_j w v op rd offset a b h k =
    let e : 2 * bits w 30 21 + 2 ^ 11 * bits w 20 20 + 2 ^ 12 * bits w 19 12 + 2 ^ 20 * bits w 31 31 ≡ 2 * bits v 30 21 + 2 ^ 11 * bits v 20 20 + 2 ^ 12 * bits v 19 12 + 2 ^ 20 * bits v 31 31 = same_21 _ _ (omega arith) (omega arith) (sym h.offset_is ∙ k.offset_is) in
    let low : bits w 30 21 ≡ bits v 30 21 = omega arith in
    let middle : bits w 20 20 ≡ bits v 20 20 = omega arith in
    let high : bits w 19 12 ≡ bits v 19 12 = omega arith in
    let top : bits w 31 31 ≡ bits v 31 31 = omega arith in
    omega arith

-- an instruction has at most one word
pub one_word : (w v : ℕ) (i : Instr) → w < 2 ^ 32 → v < 2 ^ 32 → StandsFor w i → StandsFor v i → w ≡ v
one_word w v (Lui rd imm) a b h k = one_u w v _ rd imm a b h k
one_word w v (Auipc rd imm) a b h k = one_u w v _ rd imm a b h k
one_word w v (Jal rd offset) a b h k = one_j w v _ rd offset a b h k
one_word w v (Jalr rd rs1 imm) a b h k = one_i w v _ _ rd rs1 imm a b h k
one_word w v (Beq rs1 rs2 offset) a b h k = one_b w v _ _ rs1 rs2 offset a b h k
one_word w v (Bne rs1 rs2 offset) a b h k = one_b w v _ _ rs1 rs2 offset a b h k
one_word w v (Blt rs1 rs2 offset) a b h k = one_b w v _ _ rs1 rs2 offset a b h k
one_word w v (Bge rs1 rs2 offset) a b h k = one_b w v _ _ rs1 rs2 offset a b h k
one_word w v (Bltu rs1 rs2 offset) a b h k = one_b w v _ _ rs1 rs2 offset a b h k
one_word w v (Bgeu rs1 rs2 offset) a b h k = one_b w v _ _ rs1 rs2 offset a b h k
one_word w v (Lb rd rs1 imm) a b h k = one_i w v _ _ rd rs1 imm a b h k
one_word w v (Lh rd rs1 imm) a b h k = one_i w v _ _ rd rs1 imm a b h k
one_word w v (Lw rd rs1 imm) a b h k = one_i w v _ _ rd rs1 imm a b h k
one_word w v (Lbu rd rs1 imm) a b h k = one_i w v _ _ rd rs1 imm a b h k
one_word w v (Lhu rd rs1 imm) a b h k = one_i w v _ _ rd rs1 imm a b h k
one_word w v (Sb rs1 rs2 imm) a b h k = one_s w v _ _ rs1 rs2 imm a b h k
one_word w v (Sh rs1 rs2 imm) a b h k = one_s w v _ _ rs1 rs2 imm a b h k
one_word w v (Sw rs1 rs2 imm) a b h k = one_s w v _ _ rs1 rs2 imm a b h k
one_word w v (Addi rd rs1 imm) a b h k = one_i w v _ _ rd rs1 imm a b h k
one_word w v (Slti rd rs1 imm) a b h k = one_i w v _ _ rd rs1 imm a b h k
one_word w v (Sltiu rd rs1 imm) a b h k = one_i w v _ _ rd rs1 imm a b h k
one_word w v (Xori rd rs1 imm) a b h k = one_i w v _ _ rd rs1 imm a b h k
one_word w v (Ori rd rs1 imm) a b h k = one_i w v _ _ rd rs1 imm a b h k
one_word w v (Andi rd rs1 imm) a b h k = one_i w v _ _ rd rs1 imm a b h k
one_word w v (Slli rd rs1 amount) a b h k = one_r w v _ _ _ rd rs1 amount a b h k
one_word w v (Srli rd rs1 amount) a b h k = one_r w v _ _ _ rd rs1 amount a b h k
one_word w v (Srai rd rs1 amount) a b h k = one_r w v _ _ _ rd rs1 amount a b h k
one_word w v (Add rd rs1 rs2) a b h k = one_r w v _ _ _ rd rs1 rs2 a b h k
one_word w v (Sub rd rs1 rs2) a b h k = one_r w v _ _ _ rd rs1 rs2 a b h k
one_word w v (Sll rd rs1 rs2) a b h k = one_r w v _ _ _ rd rs1 rs2 a b h k
one_word w v (Slt rd rs1 rs2) a b h k = one_r w v _ _ _ rd rs1 rs2 a b h k
one_word w v (Sltu rd rs1 rs2) a b h k = one_r w v _ _ _ rd rs1 rs2 a b h k
one_word w v (Xor rd rs1 rs2) a b h k = one_r w v _ _ _ rd rs1 rs2 a b h k
one_word w v (Srl rd rs1 rs2) a b h k = one_r w v _ _ _ rd rs1 rs2 a b h k
one_word w v (Sra rd rs1 rs2) a b h k = one_r w v _ _ _ rd rs1 rs2 a b h k
one_word w v (Or rd rs1 rs2) a b h k = one_r w v _ _ _ rd rs1 rs2 a b h k
one_word w v (And rd rs1 rs2) a b h k = one_r w v _ _ _ rd rs1 rs2 a b h k
one_word w v (Mul rd rs1 rs2) a b h k = one_r w v _ _ _ rd rs1 rs2 a b h k
one_word w v (Mulh rd rs1 rs2) a b h k = one_r w v _ _ _ rd rs1 rs2 a b h k
one_word w v (Mulhsu rd rs1 rs2) a b h k = one_r w v _ _ _ rd rs1 rs2 a b h k
one_word w v (Mulhu rd rs1 rs2) a b h k = one_r w v _ _ _ rd rs1 rs2 a b h k
one_word w v (Div rd rs1 rs2) a b h k = one_r w v _ _ _ rd rs1 rs2 a b h k
one_word w v (Divu rd rs1 rs2) a b h k = one_r w v _ _ _ rd rs1 rs2 a b h k
one_word w v (Rem rd rs1 rs2) a b h k = one_r w v _ _ _ rd rs1 rs2 a b h k
one_word w v (Remu rd rs1 rs2) a b h k = one_r w v _ _ _ rd rs1 rs2 a b h k
one_word w v (Fence word) a b h k = sym h.word_is ∙ k.word_is
one_word w v Ecall a b h k = h ∙ sym k
one_word w v Ebreak a b h k = h ∙ sym k

-- the word with these fields
joined : ℕ → ℕ → ℕ → ℕ → ℕ → ℕ → ℕ
joined opcode funct3 funct7 rd rs1 rs2 = opcode + 128 * rd + 4096 * funct3 + 32768 * rs1 + 1048576 * rs2 + 33554432 * funct7

record Joins (w opcode funct3 funct7 rd rs1 rs2 : ℕ) : Type 0 where
  small : w < 2 ^ 32
  opcode_is : opcode_of w ≡ opcode
  funct3_is : funct3_of w ≡ funct3
  funct7_is : funct7_of w ≡ funct7
  rd_is : rd_of w ≡ rd
  rs1_is : rs1_of w ≡ rs1
  rs2_is : rs2_of w ≡ rs2

joins : (opcode funct3 funct7 rd rs1 rs2 : ℕ) → opcode < 128 → funct3 < 8 → funct7 < 128 → rd < 32 → rs1 < 32 → rs2 < 32 → Joins (joined opcode funct3 funct7 rd rs1 rs2) opcode funct3 funct7 rd rs1 rs2
unfolding joined
joins opcode funct3 funct7 rd rs1 rs2 a b c d e f = record {
  small = omega arith;
  opcode_is = omega arith;
  funct3_is = omega arith;
  funct7_is = omega arith;
  rd_is = omega arith;
  rs1_is = omega arith;
  rs2_is = omega arith;
}

-- the bits of a number in two's complement
record Signed (width : ℕ) (z : ℤ) : Type 0 where
  n : ℕ
  small : n < 2 ^ width
  is : z ≡ sign_extended width n

record Even (width : ℕ) (z : ℤ) : Type 0 where
  n : ℕ
  small : n < 2 ^ width
  even : n % 2 ≡ 0
  is : z ≡ sign_extended width n

immediate_bits : (z : ℤ) → IsImmediate z → Signed 12 z
immediate_bits (pos n) h = let b : n < 2048 = grind (arith, ints, h.high) in record { n = n; small = omega arith; is = grind (arith, ints) }
immediate_bits (negsuc n) h = let b : n < 2048 = grind (arith, ints, h.low) in record { n = 4096 - suc n; small = omega arith; is = grind (arith, ints) }

branch_bits : (z : ℤ) → IsOffset 4096 z → Even 13 z
branch_bits (pos n) h = let b : n < 4096 = grind (arith, ints, h.high) in record { n = n; small = omega arith; even = grind (arith, ints, h.even); is = grind (arith, ints) }
branch_bits (negsuc n) h = let b : n < 4096 = grind (arith, ints, h.low) in record { n = 8192 - suc n; small = omega arith; even = grind (arith, ints, h.even); is = grind (arith, ints) }

jump_bits : (z : ℤ) → IsOffset 1048576 z → Even 21 z
jump_bits (pos n) h = let b : n < 1048576 = grind (arith, ints, h.high) in record { n = n; small = omega arith; even = grind (arith, ints, h.even); is = grind (arith, ints) }
jump_bits (negsuc n) h = let b : n < 1048576 = grind (arith, ints, h.low) in record { n = 2097152 - suc n; small = omega arith; even = grind (arith, ints, h.even); is = grind (arith, ints) }

-- some word of 32 bits of which P holds
record Some_word (P : ℕ → Type 0) : Type 0 where
  w : ℕ
  small : w < 2 ^ 32
  holds : P w

has_r : (op f3 f7 rd rs1 rs2 : ℕ) → op < 128 → f3 < 8 → f7 < 128 → rd < 32 → rs1 < 32 → rs2 < 32 → Some_word (λ w. IsR w op f3 f7 rd rs1 rs2)
has_r op f3 f7 rd rs1 rs2 o p q a b c =
    let j = joins op f3 f7 rd rs1 rs2 o p q a b c in
    record { w = joined op f3 f7 rd rs1 rs2; small = j.small; holds = record { opcode_is = j.opcode_is; funct3_is = j.funct3_is; funct7_is = j.funct7_is; rd_is = sym j.rd_is; rs1_is = sym j.rs1_is; rs2_is = sym j.rs2_is } }

has_i : (op f3 rd rs1 : ℕ) (imm : ℤ) → op < 128 → f3 < 8 → rd < 32 → rs1 < 32 → IsImmediate imm → Some_word (λ w. IsI w op f3 rd rs1 imm)
has_i op f3 rd rs1 imm o p a b i =
    let s = immediate_bits imm i in
    let n : ℕ = s.n in
    let small : n < 4096 = s.small in
    let j = joins op f3 (n / 32) rd rs1 (n % 32) o p (omega arith) a b (omega arith) in
    let w : ℕ = joined op f3 (n / 32) rd rs1 (n % 32) in
    let e : bits w 31 20 ≡ n = omega (arith, j.rs2_is, j.funct7_is) in
    record { w = w; small = j.small; holds = record { opcode_is = j.opcode_is; funct3_is = j.funct3_is; rd_is = sym j.rd_is; rs1_is = sym j.rs1_is; imm_is = s.is ∙ ap (sign_extended 12) (sym e) } }

has_s : (op f3 rs1 rs2 : ℕ) (imm : ℤ) → op < 128 → f3 < 8 → rs1 < 32 → rs2 < 32 → IsImmediate imm → Some_word (λ w. IsS w op f3 rs1 rs2 imm)
has_s op f3 rs1 rs2 imm o p a b i =
    let s = immediate_bits imm i in
    let n : ℕ = s.n in
    let small : n < 4096 = s.small in
    let j = joins op f3 (n / 32) (n % 32) rs1 rs2 o p (omega arith) (omega arith) a b in
    let w : ℕ = joined op f3 (n / 32) (n % 32) rs1 rs2 in
    let e : bits w 11 7 + 2 ^ 5 * bits w 31 25 ≡ n = omega (arith, j.rd_is, j.funct7_is) in
    record { w = w; small = j.small; holds = record { opcode_is = j.opcode_is; funct3_is = j.funct3_is; rs1_is = sym j.rs1_is; rs2_is = sym j.rs2_is; imm_is = s.is ∙ ap (sign_extended 12) (sym e) } }

has_b : (op f3 rs1 rs2 : ℕ) (offset : ℤ) → op < 128 → f3 < 8 → rs1 < 32 → rs2 < 32 → IsOffset 4096 offset → Some_word (λ w. IsB w op f3 rs1 rs2 offset)
has_b op f3 rs1 rs2 offset o p a b i =
    let s = branch_bits offset i in
    let n : ℕ = s.n in
    let small : n < 8192 = s.small in
    let even : n % 2 ≡ 0 = s.even in
    let rd : ℕ = 2 * (n / 2 % 16) + n / 2048 % 2 in
    let f7 : ℕ = n / 32 % 64 + 64 * (n / 4096) in
    let j = joins op f3 f7 rd rs1 rs2 o p (omega arith) (omega arith) a b in
    let w : ℕ = joined op f3 f7 rd rs1 rs2 in
    let low : bits w 11 8 ≡ n / 2 % 16 = omega (arith, j.rd_is) in
    let middle : bits w 30 25 ≡ n / 32 % 64 = omega (arith, j.funct7_is) in
    let high : bits w 7 7 ≡ n / 2048 % 2 = omega (arith, j.rd_is) in
    let top : bits w 31 31 ≡ n / 4096 = omega (arith, j.funct7_is) in
    let e : 2 * bits w 11 8 + 2 ^ 5 * bits w 30 25 + 2 ^ 11 * bits w 7 7 + 2 ^ 12 * bits w 31 31 ≡ n = omega arith in
    record { w = w; small = j.small; holds = record { opcode_is = j.opcode_is; funct3_is = j.funct3_is; rs1_is = sym j.rs1_is; rs2_is = sym j.rs2_is; offset_is = s.is ∙ ap (sign_extended 13) (sym e) } }

has_u : (op rd imm : ℕ) → op < 128 → rd < 32 → imm < 2 ^ 20 → Some_word (λ w. IsU w op rd imm)
has_u op rd imm o a b =
    let w : ℕ = op + 128 * rd + 4096 * imm in
    record { w = w; small = omega arith; holds = record { opcode_is = omega arith; rd_is = omega arith; imm_is = omega arith } }

has_j : (op rd : ℕ) (offset : ℤ) → op < 128 → rd < 32 → IsOffset 1048576 offset → Some_word (λ w. IsJ w op rd offset)
has_j op rd offset o a i =
    let s = jump_bits offset i in
    let n : ℕ = s.n in
    let small : n < 2097152 = s.small in
    let even : n % 2 ≡ 0 = s.even in
    let f3 : ℕ = n / 4096 % 8 in
    let rs1 : ℕ = n / 32768 % 32 in
    let rs2 : ℕ = 2 * (n / 2 % 16) + n / 2048 % 2 in
    let f7 : ℕ = n / 32 % 64 + 64 * (n / 1048576) in
    let j = joins op f3 f7 rd rs1 rs2 o (omega arith) (omega arith) a (omega arith) (omega arith) in
    let w : ℕ = joined op f3 f7 rd rs1 rs2 in
    let e = jump_bits_of w n small even j.funct3_is j.rs1_is j.rs2_is j.funct7_is in
    record { w = w; small = j.small; holds = record { opcode_is = j.opcode_is; rd_is = sym j.rd_is; offset_is = s.is ∙ ap (sign_extended 21) (sym e) } }

-- an instruction in range has a word
some_word : (i : Instr) → InRange i → Some_word (λ w. StandsFor w i)
some_word (Lui rd imm) h = has_u 0b0110111 rd imm (lit< tt) h.0 h.1
some_word (Auipc rd imm) h = has_u 0b0010111 rd imm (lit< tt) h.0 h.1
some_word (Jal rd offset) h = has_j 0b1101111 rd offset (lit< tt) h.0 h.1
some_word (Jalr rd rs1 imm) h = has_i 0b1100111 0b000 rd rs1 imm (lit< tt) (lit< tt) h.0 h.1 h.2
some_word (Beq rs1 rs2 offset) h = has_b 0b1100011 0b000 rs1 rs2 offset (lit< tt) (lit< tt) h.0 h.1 h.2
some_word (Bne rs1 rs2 offset) h = has_b 0b1100011 0b001 rs1 rs2 offset (lit< tt) (lit< tt) h.0 h.1 h.2
some_word (Blt rs1 rs2 offset) h = has_b 0b1100011 0b100 rs1 rs2 offset (lit< tt) (lit< tt) h.0 h.1 h.2
some_word (Bge rs1 rs2 offset) h = has_b 0b1100011 0b101 rs1 rs2 offset (lit< tt) (lit< tt) h.0 h.1 h.2
some_word (Bltu rs1 rs2 offset) h = has_b 0b1100011 0b110 rs1 rs2 offset (lit< tt) (lit< tt) h.0 h.1 h.2
some_word (Bgeu rs1 rs2 offset) h = has_b 0b1100011 0b111 rs1 rs2 offset (lit< tt) (lit< tt) h.0 h.1 h.2
some_word (Lb rd rs1 imm) h = has_i 0b0000011 0b000 rd rs1 imm (lit< tt) (lit< tt) h.0 h.1 h.2
some_word (Lh rd rs1 imm) h = has_i 0b0000011 0b001 rd rs1 imm (lit< tt) (lit< tt) h.0 h.1 h.2
some_word (Lw rd rs1 imm) h = has_i 0b0000011 0b010 rd rs1 imm (lit< tt) (lit< tt) h.0 h.1 h.2
some_word (Lbu rd rs1 imm) h = has_i 0b0000011 0b100 rd rs1 imm (lit< tt) (lit< tt) h.0 h.1 h.2
some_word (Lhu rd rs1 imm) h = has_i 0b0000011 0b101 rd rs1 imm (lit< tt) (lit< tt) h.0 h.1 h.2
some_word (Sb rs1 rs2 imm) h = has_s 0b0100011 0b000 rs1 rs2 imm (lit< tt) (lit< tt) h.0 h.1 h.2
some_word (Sh rs1 rs2 imm) h = has_s 0b0100011 0b001 rs1 rs2 imm (lit< tt) (lit< tt) h.0 h.1 h.2
some_word (Sw rs1 rs2 imm) h = has_s 0b0100011 0b010 rs1 rs2 imm (lit< tt) (lit< tt) h.0 h.1 h.2
some_word (Addi rd rs1 imm) h = has_i 0b0010011 0b000 rd rs1 imm (lit< tt) (lit< tt) h.0 h.1 h.2
some_word (Slti rd rs1 imm) h = has_i 0b0010011 0b010 rd rs1 imm (lit< tt) (lit< tt) h.0 h.1 h.2
some_word (Sltiu rd rs1 imm) h = has_i 0b0010011 0b011 rd rs1 imm (lit< tt) (lit< tt) h.0 h.1 h.2
some_word (Xori rd rs1 imm) h = has_i 0b0010011 0b100 rd rs1 imm (lit< tt) (lit< tt) h.0 h.1 h.2
some_word (Ori rd rs1 imm) h = has_i 0b0010011 0b110 rd rs1 imm (lit< tt) (lit< tt) h.0 h.1 h.2
some_word (Andi rd rs1 imm) h = has_i 0b0010011 0b111 rd rs1 imm (lit< tt) (lit< tt) h.0 h.1 h.2
some_word (Slli rd rs1 amount) h = has_r 0b0010011 0b001 0b0000000 rd rs1 amount (lit< tt) (lit< tt) (lit< tt) h.0 h.1 h.2
some_word (Srli rd rs1 amount) h = has_r 0b0010011 0b101 0b0000000 rd rs1 amount (lit< tt) (lit< tt) (lit< tt) h.0 h.1 h.2
some_word (Srai rd rs1 amount) h = has_r 0b0010011 0b101 0b0100000 rd rs1 amount (lit< tt) (lit< tt) (lit< tt) h.0 h.1 h.2
some_word (Add rd rs1 rs2) h = has_r 0b0110011 0b000 0b0000000 rd rs1 rs2 (lit< tt) (lit< tt) (lit< tt) h.0 h.1 h.2
some_word (Sub rd rs1 rs2) h = has_r 0b0110011 0b000 0b0100000 rd rs1 rs2 (lit< tt) (lit< tt) (lit< tt) h.0 h.1 h.2
some_word (Sll rd rs1 rs2) h = has_r 0b0110011 0b001 0b0000000 rd rs1 rs2 (lit< tt) (lit< tt) (lit< tt) h.0 h.1 h.2
some_word (Slt rd rs1 rs2) h = has_r 0b0110011 0b010 0b0000000 rd rs1 rs2 (lit< tt) (lit< tt) (lit< tt) h.0 h.1 h.2
some_word (Sltu rd rs1 rs2) h = has_r 0b0110011 0b011 0b0000000 rd rs1 rs2 (lit< tt) (lit< tt) (lit< tt) h.0 h.1 h.2
some_word (Xor rd rs1 rs2) h = has_r 0b0110011 0b100 0b0000000 rd rs1 rs2 (lit< tt) (lit< tt) (lit< tt) h.0 h.1 h.2
some_word (Srl rd rs1 rs2) h = has_r 0b0110011 0b101 0b0000000 rd rs1 rs2 (lit< tt) (lit< tt) (lit< tt) h.0 h.1 h.2
some_word (Sra rd rs1 rs2) h = has_r 0b0110011 0b101 0b0100000 rd rs1 rs2 (lit< tt) (lit< tt) (lit< tt) h.0 h.1 h.2
some_word (Or rd rs1 rs2) h = has_r 0b0110011 0b110 0b0000000 rd rs1 rs2 (lit< tt) (lit< tt) (lit< tt) h.0 h.1 h.2
some_word (And rd rs1 rs2) h = has_r 0b0110011 0b111 0b0000000 rd rs1 rs2 (lit< tt) (lit< tt) (lit< tt) h.0 h.1 h.2
some_word (Mul rd rs1 rs2) h = has_r 0b0110011 0b000 0b0000001 rd rs1 rs2 (lit< tt) (lit< tt) (lit< tt) h.0 h.1 h.2
some_word (Mulh rd rs1 rs2) h = has_r 0b0110011 0b001 0b0000001 rd rs1 rs2 (lit< tt) (lit< tt) (lit< tt) h.0 h.1 h.2
some_word (Mulhsu rd rs1 rs2) h = has_r 0b0110011 0b010 0b0000001 rd rs1 rs2 (lit< tt) (lit< tt) (lit< tt) h.0 h.1 h.2
some_word (Mulhu rd rs1 rs2) h = has_r 0b0110011 0b011 0b0000001 rd rs1 rs2 (lit< tt) (lit< tt) (lit< tt) h.0 h.1 h.2
some_word (Div rd rs1 rs2) h = has_r 0b0110011 0b100 0b0000001 rd rs1 rs2 (lit< tt) (lit< tt) (lit< tt) h.0 h.1 h.2
some_word (Divu rd rs1 rs2) h = has_r 0b0110011 0b101 0b0000001 rd rs1 rs2 (lit< tt) (lit< tt) (lit< tt) h.0 h.1 h.2
some_word (Rem rd rs1 rs2) h = has_r 0b0110011 0b110 0b0000001 rd rs1 rs2 (lit< tt) (lit< tt) (lit< tt) h.0 h.1 h.2
some_word (Remu rd rs1 rs2) h = has_r 0b0110011 0b111 0b0000001 rd rs1 rs2 (lit< tt) (lit< tt) (lit< tt) h.0 h.1 h.2
some_word (Fence word) h = record { w = word; small = h.2; holds = record { opcode_is = h.0; funct3_is = h.1; word_is = refl } }
some_word Ecall h = record { w = 0x00000073; small = lit< tt; holds = refl }
some_word Ebreak h = record { w = 0x00100073; small = lit< tt; holds = refl }

-- an instruction in range has exactly one word
pub exactly_one_word : (i : Instr) → InRange i → (w : ℕ) × IsOnlyWord w i
exactly_one_word i h =
    let s = some_word i h in
    (s.w, record { small = s.small; stands = s.holds; only = λ v b k. one_word v s.w i b s.small k s.holds })

-- the answer of `encode`, from the two facts that its cases show
pub encodes_in_range : (i : Instr) (o : Option ℕ) → IfSome o (λ w. StandsFor w i) → IfSome o (λ w. w < 2 ^ 32) → (o ≡ None → InRange i → ⊥) → IsSome o ↔ InRange i
encodes_in_range i (Some w) stands small none = (λ _. ranges_in w small i stands, λ _. refl)
encodes_in_range i None stands small none = (λ e. cc, λ h. absurd (none refl h))

pub only_word : (i : Instr) (o : Option ℕ) → IfSome o (λ w. StandsFor w i) → IfSome o (λ w. w < 2 ^ 32) → IfSome o (λ w. IsOnlyWord w i)
only_word i (Some w) stands small = record { small = small; stands = stands; only = λ v b k. one_word v w i b small k stands }
only_word i None stands small = tt
