-- What each instruction does, over the registers and a memory that is a function from addresses to bytes.
-- Numbers are those of 32 bits without sign, and sums and products are taken modulo 2 ^ 32.
use Rattle.std.specs.Prelude.{ℕ, zero, suc, ◌+◌, ◌-◌, ◌*◌, ◌/◌, ◌%◌, ◌^◌, Bool, true, false, not, ℤ, pos, ◌*ℤ◌, int_lt, int_div, int_rem, if◌then◌else◌, nat_lt, nat_le, ◌==◌, ◌&&◌, slice_index, slice_set, Option, Some, None, option_and_then, option_map, bit_and, bit_or, bit_xor}
use Rattle.std.specs.Int.{cast_signed, cast_unsigned, w32, w64, int_shr, byte_at}
use Rattle.seq_isa.specs.Decoded.{decode_of}
use Rattle.seq_isa.specs.declared.instr.Instr.{Instr}
use Rattle.seq_isa.specs.declared.instr.Instr.TheVariants.{Lui, Auipc, Jal, Jalr, Beq, Bne, Blt, Bge, Bltu, Bgeu, Lb, Lh, Lw, Lbu, Lhu, Sb, Sh, Sw, Addi, Slti, Sltiu, Xori, Ori, Andi, Slli, Srli, Srai, Add, Sub, Sll, Slt, Sltu, Xor, Srl, Sra, Or, And, Mul, Mulh, Mulhsu, Mulhu, Div, Divu, Rem, Remu, Fence, Ecall, Ebreak}
use Rattle.seq_words.specs.declared.regs.Regs.{Regs}

-- a memory: the byte at each address that it has
abbrev pub Bytes : Type 0
Bytes = ℕ → Option ℕ

-- the little-endian number of so many bytes from an address on, where the memory has each of them
unfoldable pub number_at : Bytes → ℕ → ℕ → Option ℕ
number_at bytes at zero = Some 0
number_at bytes at (suc count) = option_and_then (λ b. option_map (λ n. b + 256 * n) (number_at bytes (at + 1) count)) (bytes at)

-- the memory in which so many bytes from an address on are the low bytes of a number, and all others stay
unfoldable pub stored : Bytes → ℕ → ℕ → ℕ → Bytes
stored bytes at width value = λ a. if nat_le at a && nat_lt a (at + width) then Some (byte_at (a - at) value) else bytes a

-- what an instruction does. It moves on: a register that it writes with the value, what it stores as address, width in bytes
-- and value, and the next pc. Or it calls the kernel. Or it traps with a cause, and changes nothing.
pub data Outcome : Type 0 where
  moves : Option (ℕ × ℕ) → Option (ℕ × ℕ × ℕ) → ℕ → Outcome
  call : Outcome
  trap : ℕ → Outcome

-- the number that a register holds: x0 holds 0
abbrev pub register : Regs → ℕ → ℕ
register r i = if i == 0 then 0 else slice_index r.x i

-- the registers after a register was written, or none, and pc was set
abbrev pub registers_after : Regs → Option (ℕ × ℕ) → ℕ → Regs
registers_after r (Some w) next = record { x = slice_set r.x w.0 w.1; pc = next }
registers_after r None next = record r { pc = next }

-- the number that 32 bits are in two's complement
abbrev pub signed : ℕ → ℤ
signed n = cast_signed w32 n

-- the 32 bits that a number is in two's complement
abbrev pub unsigned : ℤ → ℕ
unsigned z = cast_unsigned w32 z

-- the address of the next instruction
abbrev pub following : Regs → ℕ
following r = (r.pc + 4) % 2 ^ 32

-- the register rd with its value: a write to x0 is dropped
abbrev pub written : ℕ → ℕ → Option (ℕ × ℕ)
written rd value = if rd == 0 then None else Some (rd, value)

-- rd gets a value, and the next instruction follows
unfoldable pub gives : Regs → ℕ → ℕ → Outcome
gives r rd value = moves (written rd value) None (following r)

-- a jump: rd gets the address of the next instruction. A target that isn't a multiple of four traps, and rd stays
unfoldable pub jumps : Regs → ℕ → ℕ → Outcome
jumps r rd target = if target % 4 == 0 then moves (written rd (following r)) None target else trap 0

-- a branch: where it is taken, it jumps by the offset, and a target that isn't a multiple of four traps
unfoldable pub branches : Regs → Bool → ℤ → Outcome
branches r taken offset =
    let target = (r.pc + unsigned offset) % 2 ^ 32 in
    if taken then (if target % 4 == 0 then moves None None target else trap 0) else moves None None (following r)

-- what a load makes of the number at its address: with a byte outside it traps
abbrev pub loaded : Regs → ℕ → (ℕ → ℕ) → Option ℕ → Outcome
loaded r rd extend (Some n) = gives r rd (extend n)
loaded r rd extend None = trap 5

-- a load: an address that isn't a multiple of the width traps first
unfoldable pub loads : Regs → Bytes → ℕ → ℕ → ℕ → (ℕ → ℕ) → Outcome
loads r bytes rd at width extend = if at % width == 0 then loaded r rd extend (number_at bytes at width) else trap 4

-- what a store does, by the number that stood at its address: with a byte outside it traps
abbrev pub put : Regs → ℕ → ℕ → ℕ → Option ℕ → Outcome
put r at width value (Some n) = moves None (Some (at, width, value)) (following r)
put r at width value None = trap 7

-- a store of the low bytes of a number: an address that isn't a multiple of the width traps first
unfoldable pub stores : Regs → Bytes → ℕ → ℕ → ℕ → Outcome
stores r bytes at width value =
    if at % width == 0 then put r at width (value % 2 ^ (8 * width)) (number_at bytes at width) else trap 6

-- a byte or a half word, sign-extended to 32 bits: from `half` on it is negative
abbrev pub extended : ℕ → ℕ → ℕ
extended half n = if nat_lt n half then n else n + (2 ^ 32 - 2 * half)

-- zero-extended
abbrev pub same : ℕ → ℕ
same n = n

-- 1 where a test holds, else 0
abbrev pub flag : Bool → ℕ
flag true = 1
flag false = 0

-- the upper 32 bits of a product of 64 bits
abbrev pub upper : ℤ → ℕ
upper z = cast_unsigned w64 z / 2 ^ 32

-- the effective address: rs1 plus the immediate
abbrev pub address : Regs → ℕ → ℤ → ℕ
address r rs1 imm = (register r rs1 + unsigned imm) % 2 ^ 32

-- logical left shift: zeros come in
abbrev pub shifted_left : ℕ → ℕ → ℕ
shifted_left a amount = a * 2 ^ amount % 2 ^ 32

-- logical right shift: zeros come in
abbrev pub shifted_right : ℕ → ℕ → ℕ
shifted_right a amount = a / 2 ^ amount

-- arithmetic right shift: copies of the sign bit come in
abbrev pub shifted_signed : ℕ → ℕ → ℕ
shifted_signed a amount = unsigned (int_shr (signed a) amount)

-- signed division, rounded towards zero; by zero all bits are set. -2 ^ 31 divided by -1 is 2 ^ 31, whose 32 bits are those
-- of -2 ^ 31
unfoldable pub quotient : ℕ → ℕ → ℕ
quotient a b = if b == 0 then 2 ^ 32 - 1 else unsigned (int_div (signed a) (signed b))

-- the remainder of signed division has the sign of the dividend; by zero it is the dividend
unfoldable pub remainder : ℕ → ℕ → ℕ
remainder a b = if b == 0 then a else unsigned (int_rem (signed a) (signed b))

-- division without sign; by zero all bits are set
unfoldable pub quotient_unsigned : ℕ → ℕ → ℕ
quotient_unsigned a b = if b == 0 then 2 ^ 32 - 1 else a / b

-- its remainder; by zero it is the dividend
unfoldable pub remainder_unsigned : ℕ → ℕ → ℕ
remainder_unsigned a b = if b == 0 then a else a % b

-- what each instruction does
unfoldable pub outcome_of : Regs → Bytes → Instr → Outcome
outcome_of r bytes (Lui rd imm) = gives r rd (imm * 4096)
outcome_of r bytes (Auipc rd imm) = gives r rd ((r.pc + imm * 4096) % 2 ^ 32)
outcome_of r bytes (Jal rd offset) = jumps r rd ((r.pc + unsigned offset) % 2 ^ 32)
outcome_of r bytes (Jalr rd rs1 imm) = let at = address r rs1 imm in jumps r rd (at - at % 2)
outcome_of r bytes (Beq rs1 rs2 offset) = branches r (register r rs1 == register r rs2) offset
outcome_of r bytes (Bne rs1 rs2 offset) = branches r (not (register r rs1 == register r rs2)) offset
outcome_of r bytes (Blt rs1 rs2 offset) = branches r (int_lt (signed (register r rs1)) (signed (register r rs2))) offset
outcome_of r bytes (Bge rs1 rs2 offset) = branches r (not (int_lt (signed (register r rs1)) (signed (register r rs2)))) offset
outcome_of r bytes (Bltu rs1 rs2 offset) = branches r (nat_lt (register r rs1) (register r rs2)) offset
outcome_of r bytes (Bgeu rs1 rs2 offset) = branches r (not (nat_lt (register r rs1) (register r rs2))) offset
outcome_of r bytes (Lb rd rs1 imm) = loads r bytes rd (address r rs1 imm) 1 (extended 128)
outcome_of r bytes (Lh rd rs1 imm) = loads r bytes rd (address r rs1 imm) 2 (extended 32768)
outcome_of r bytes (Lw rd rs1 imm) = loads r bytes rd (address r rs1 imm) 4 same
outcome_of r bytes (Lbu rd rs1 imm) = loads r bytes rd (address r rs1 imm) 1 same
outcome_of r bytes (Lhu rd rs1 imm) = loads r bytes rd (address r rs1 imm) 2 same
outcome_of r bytes (Sb rs1 rs2 imm) = stores r bytes (address r rs1 imm) 1 (register r rs2)
outcome_of r bytes (Sh rs1 rs2 imm) = stores r bytes (address r rs1 imm) 2 (register r rs2)
outcome_of r bytes (Sw rs1 rs2 imm) = stores r bytes (address r rs1 imm) 4 (register r rs2)
outcome_of r bytes (Addi rd rs1 imm) = gives r rd ((register r rs1 + unsigned imm) % 2 ^ 32)
outcome_of r bytes (Slti rd rs1 imm) = gives r rd (flag (int_lt (signed (register r rs1)) imm))
outcome_of r bytes (Sltiu rd rs1 imm) = gives r rd (flag (nat_lt (register r rs1) (unsigned imm)))
outcome_of r bytes (Xori rd rs1 imm) = gives r rd (bit_xor (register r rs1) (unsigned imm))
outcome_of r bytes (Ori rd rs1 imm) = gives r rd (bit_or (register r rs1) (unsigned imm))
outcome_of r bytes (Andi rd rs1 imm) = gives r rd (bit_and (register r rs1) (unsigned imm))
outcome_of r bytes (Slli rd rs1 amount) = gives r rd (shifted_left (register r rs1) amount)
outcome_of r bytes (Srli rd rs1 amount) = gives r rd (shifted_right (register r rs1) amount)
outcome_of r bytes (Srai rd rs1 amount) = gives r rd (shifted_signed (register r rs1) amount)
outcome_of r bytes (Add rd rs1 rs2) = gives r rd ((register r rs1 + register r rs2) % 2 ^ 32)
outcome_of r bytes (Sub rd rs1 rs2) = gives r rd ((register r rs1 + (2 ^ 32 - register r rs2)) % 2 ^ 32)
outcome_of r bytes (Sll rd rs1 rs2) = gives r rd (shifted_left (register r rs1) (register r rs2 % 32))
outcome_of r bytes (Slt rd rs1 rs2) = gives r rd (flag (int_lt (signed (register r rs1)) (signed (register r rs2))))
outcome_of r bytes (Sltu rd rs1 rs2) = gives r rd (flag (nat_lt (register r rs1) (register r rs2)))
outcome_of r bytes (Xor rd rs1 rs2) = gives r rd (bit_xor (register r rs1) (register r rs2))
outcome_of r bytes (Srl rd rs1 rs2) = gives r rd (shifted_right (register r rs1) (register r rs2 % 32))
outcome_of r bytes (Sra rd rs1 rs2) = gives r rd (shifted_signed (register r rs1) (register r rs2 % 32))
outcome_of r bytes (Or rd rs1 rs2) = gives r rd (bit_or (register r rs1) (register r rs2))
outcome_of r bytes (And rd rs1 rs2) = gives r rd (bit_and (register r rs1) (register r rs2))
outcome_of r bytes (Mul rd rs1 rs2) = gives r rd (register r rs1 * register r rs2 % 2 ^ 32)
outcome_of r bytes (Mulh rd rs1 rs2) = gives r rd (upper (signed (register r rs1) *ℤ signed (register r rs2)))
outcome_of r bytes (Mulhsu rd rs1 rs2) = gives r rd (upper (signed (register r rs1) *ℤ pos (register r rs2)))
outcome_of r bytes (Mulhu rd rs1 rs2) = gives r rd (register r rs1 * register r rs2 / 2 ^ 32)
outcome_of r bytes (Div rd rs1 rs2) = gives r rd (quotient (register r rs1) (register r rs2))
outcome_of r bytes (Divu rd rs1 rs2) = gives r rd (quotient_unsigned (register r rs1) (register r rs2))
outcome_of r bytes (Rem rd rs1 rs2) = gives r rd (remainder (register r rs1) (register r rs2))
outcome_of r bytes (Remu rd rs1 rs2) = gives r rd (remainder_unsigned (register r rs1) (register r rs2))
outcome_of r bytes (Fence word) = moves None None (following r)
outcome_of r bytes Ecall = call
outcome_of r bytes Ebreak = trap 3

-- the outcome of what a word stands for: a word that stands for no instruction traps
abbrev pub outcome_if : Regs → Bytes → Option Instr → Outcome
outcome_if r bytes (Some i) = outcome_of r bytes i
outcome_if r bytes None = trap 2

-- the outcome of the word that is fetched: a fetch outside traps
abbrev pub outcome_in : Regs → Bytes → Option ℕ → Outcome
outcome_in r bytes (Some w) = outcome_if r bytes (decode_of w)
outcome_in r bytes None = trap 1

-- the outcome of the instruction at pc
abbrev pub outcome_at : Regs → Bytes → Outcome
outcome_at r bytes = outcome_in r bytes (number_at bytes r.pc 4)
