-- The instruction listing of RV32I and of its extension M: which word stands for which instruction, one line for each.
-- Opcodes, funct3 and funct7 stand in binary, as the manual prints them.
use Rattle.std.specs.Prelude.{◌≡◌, ℕ, ◌+◌, ◌-◌, ◌*◌, ◌/◌, ◌%◌, ◌^◌, suc, ℤ, pos, negsuc, if◌then◌else◌, nat_lt}
use Rattle.seq_isa.specs.declared.instr.Instr.{Instr}
use Rattle.seq_isa.specs.declared.instr.Instr.TheVariants.{Lui, Auipc, Jal, Jalr, Beq, Bne, Blt, Bge, Bltu, Bgeu, Lb, Lh, Lw, Lbu, Lhu, Sb, Sh, Sw, Addi, Slti, Sltiu, Xori, Ori, Andi, Slli, Srli, Srai, Add, Sub, Sll, Slt, Sltu, Xor, Srl, Sra, Or, And, Mul, Mulh, Mulhsu, Mulhu, Div, Divu, Rem, Remu, Fence, Ecall, Ebreak}

-- the bits of a word from a high place down to a low one: the manual's inst[high:low]
abbrev pub bits : ℕ → ℕ → ℕ → ℕ
bits w high low = w / 2 ^ low % 2 ^ (high + 1 - low)

-- the fields that the formats share: opcode, rd, funct3, rs1, rs2 and funct7
abbrev pub opcode_of : ℕ → ℕ
opcode_of w = bits w 6 0

abbrev pub rd_of : ℕ → ℕ
rd_of w = bits w 11 7

abbrev pub funct3_of : ℕ → ℕ
funct3_of w = bits w 14 12

abbrev pub rs1_of : ℕ → ℕ
rs1_of w = bits w 19 15

abbrev pub rs2_of : ℕ → ℕ
rs2_of w = bits w 24 20

abbrev pub funct7_of : ℕ → ℕ
funct7_of w = bits w 31 25

-- the number that so many bits are in two's complement: the highest bit is the sign
abbrev pub sign_extended : ℕ → ℕ → ℤ
sign_extended width n = if nat_lt n (2 ^ (width - 1)) then pos n else negsuc (2 ^ width - suc n)

-- the immediate of the I format: inst[31:20] is imm[11:0]
abbrev pub i_immediate : ℕ → ℤ
i_immediate w = sign_extended 12 (bits w 31 20)

-- of the S format: inst[31:25] is imm[11:5], inst[11:7] is imm[4:0]
abbrev pub s_immediate : ℕ → ℤ
s_immediate w = sign_extended 12 (bits w 11 7 + 2 ^ 5 * bits w 31 25)

-- of the B format: inst[31] is imm[12], inst[30:25] imm[10:5], inst[11:8] imm[4:1], inst[7] imm[11], and imm[0] is 0
abbrev pub b_immediate : ℕ → ℤ
b_immediate w = sign_extended 13 (2 * bits w 11 8 + 2 ^ 5 * bits w 30 25 + 2 ^ 11 * bits w 7 7 + 2 ^ 12 * bits w 31 31)

-- of the U format: inst[31:12], which are the upper 20 bits of a number of 32
abbrev pub u_immediate : ℕ → ℕ
u_immediate w = bits w 31 12

-- of the J format: inst[31] is imm[20], inst[30:21] imm[10:1], inst[20] imm[11], inst[19:12] imm[19:12], and imm[0] is 0
abbrev pub j_immediate : ℕ → ℤ
j_immediate w = sign_extended 21 (2 * bits w 30 21 + 2 ^ 11 * bits w 20 20 + 2 ^ 12 * bits w 19 12 + 2 ^ 20 * bits w 31 31)

-- R format: funct7, rs2, rs1, funct3, rd, opcode
pub record IsR (w opcode funct3 funct7 rd rs1 rs2 : ℕ) : Type 0 where
  pub opcode_is : opcode_of w ≡ opcode
  pub funct3_is : funct3_of w ≡ funct3
  pub funct7_is : funct7_of w ≡ funct7
  pub rd_is : rd ≡ rd_of w
  pub rs1_is : rs1 ≡ rs1_of w
  pub rs2_is : rs2 ≡ rs2_of w

-- I format: imm[11:0], rs1, funct3, rd, opcode
pub record IsI (w opcode funct3 rd rs1 : ℕ) (imm : ℤ) : Type 0 where
  pub opcode_is : opcode_of w ≡ opcode
  pub funct3_is : funct3_of w ≡ funct3
  pub rd_is : rd ≡ rd_of w
  pub rs1_is : rs1 ≡ rs1_of w
  pub imm_is : imm ≡ i_immediate w

-- S format: imm[11:5], rs2, rs1, funct3, imm[4:0], opcode
pub record IsS (w opcode funct3 rs1 rs2 : ℕ) (imm : ℤ) : Type 0 where
  pub opcode_is : opcode_of w ≡ opcode
  pub funct3_is : funct3_of w ≡ funct3
  pub rs1_is : rs1 ≡ rs1_of w
  pub rs2_is : rs2 ≡ rs2_of w
  pub imm_is : imm ≡ s_immediate w

-- B format: imm[12|10:5], rs2, rs1, funct3, imm[4:1|11], opcode
pub record IsB (w opcode funct3 rs1 rs2 : ℕ) (offset : ℤ) : Type 0 where
  pub opcode_is : opcode_of w ≡ opcode
  pub funct3_is : funct3_of w ≡ funct3
  pub rs1_is : rs1 ≡ rs1_of w
  pub rs2_is : rs2 ≡ rs2_of w
  pub offset_is : offset ≡ b_immediate w

-- U format: imm[31:12], rd, opcode
pub record IsU (w opcode rd imm : ℕ) : Type 0 where
  pub opcode_is : opcode_of w ≡ opcode
  pub rd_is : rd ≡ rd_of w
  pub imm_is : imm ≡ u_immediate w

-- J format: imm[20|10:1|11|19:12], rd, opcode
pub record IsJ (w opcode rd : ℕ) (offset : ℤ) : Type 0 where
  pub opcode_is : opcode_of w ≡ opcode
  pub rd_is : rd ≡ rd_of w
  pub offset_is : offset ≡ j_immediate w

-- FENCE: fm, pred, succ, rs1 and rd are free, so the instruction holds the whole word
pub record IsFence (w word : ℕ) : Type 0 where
  pub opcode_is : opcode_of w ≡ 0b0001111
  pub funct3_is : funct3_of w ≡ 0b000
  pub word_is : word ≡ w

-- the listing
abbrev pub StandsFor : ℕ → Instr → Type 0
StandsFor w (Lui rd imm) = IsU w 0b0110111 rd imm
StandsFor w (Auipc rd imm) = IsU w 0b0010111 rd imm
StandsFor w (Jal rd offset) = IsJ w 0b1101111 rd offset
StandsFor w (Jalr rd rs1 imm) = IsI w 0b1100111 0b000 rd rs1 imm
StandsFor w (Beq rs1 rs2 offset) = IsB w 0b1100011 0b000 rs1 rs2 offset
StandsFor w (Bne rs1 rs2 offset) = IsB w 0b1100011 0b001 rs1 rs2 offset
StandsFor w (Blt rs1 rs2 offset) = IsB w 0b1100011 0b100 rs1 rs2 offset
StandsFor w (Bge rs1 rs2 offset) = IsB w 0b1100011 0b101 rs1 rs2 offset
StandsFor w (Bltu rs1 rs2 offset) = IsB w 0b1100011 0b110 rs1 rs2 offset
StandsFor w (Bgeu rs1 rs2 offset) = IsB w 0b1100011 0b111 rs1 rs2 offset
StandsFor w (Lb rd rs1 imm) = IsI w 0b0000011 0b000 rd rs1 imm
StandsFor w (Lh rd rs1 imm) = IsI w 0b0000011 0b001 rd rs1 imm
StandsFor w (Lw rd rs1 imm) = IsI w 0b0000011 0b010 rd rs1 imm
StandsFor w (Lbu rd rs1 imm) = IsI w 0b0000011 0b100 rd rs1 imm
StandsFor w (Lhu rd rs1 imm) = IsI w 0b0000011 0b101 rd rs1 imm
StandsFor w (Sb rs1 rs2 imm) = IsS w 0b0100011 0b000 rs1 rs2 imm
StandsFor w (Sh rs1 rs2 imm) = IsS w 0b0100011 0b001 rs1 rs2 imm
StandsFor w (Sw rs1 rs2 imm) = IsS w 0b0100011 0b010 rs1 rs2 imm
StandsFor w (Addi rd rs1 imm) = IsI w 0b0010011 0b000 rd rs1 imm
StandsFor w (Slti rd rs1 imm) = IsI w 0b0010011 0b010 rd rs1 imm
StandsFor w (Sltiu rd rs1 imm) = IsI w 0b0010011 0b011 rd rs1 imm
StandsFor w (Xori rd rs1 imm) = IsI w 0b0010011 0b100 rd rs1 imm
StandsFor w (Ori rd rs1 imm) = IsI w 0b0010011 0b110 rd rs1 imm
StandsFor w (Andi rd rs1 imm) = IsI w 0b0010011 0b111 rd rs1 imm
StandsFor w (Slli rd rs1 amount) = IsR w 0b0010011 0b001 0b0000000 rd rs1 amount
StandsFor w (Srli rd rs1 amount) = IsR w 0b0010011 0b101 0b0000000 rd rs1 amount
StandsFor w (Srai rd rs1 amount) = IsR w 0b0010011 0b101 0b0100000 rd rs1 amount
StandsFor w (Add rd rs1 rs2) = IsR w 0b0110011 0b000 0b0000000 rd rs1 rs2
StandsFor w (Sub rd rs1 rs2) = IsR w 0b0110011 0b000 0b0100000 rd rs1 rs2
StandsFor w (Sll rd rs1 rs2) = IsR w 0b0110011 0b001 0b0000000 rd rs1 rs2
StandsFor w (Slt rd rs1 rs2) = IsR w 0b0110011 0b010 0b0000000 rd rs1 rs2
StandsFor w (Sltu rd rs1 rs2) = IsR w 0b0110011 0b011 0b0000000 rd rs1 rs2
StandsFor w (Xor rd rs1 rs2) = IsR w 0b0110011 0b100 0b0000000 rd rs1 rs2
StandsFor w (Srl rd rs1 rs2) = IsR w 0b0110011 0b101 0b0000000 rd rs1 rs2
StandsFor w (Sra rd rs1 rs2) = IsR w 0b0110011 0b101 0b0100000 rd rs1 rs2
StandsFor w (Or rd rs1 rs2) = IsR w 0b0110011 0b110 0b0000000 rd rs1 rs2
StandsFor w (And rd rs1 rs2) = IsR w 0b0110011 0b111 0b0000000 rd rs1 rs2
StandsFor w (Mul rd rs1 rs2) = IsR w 0b0110011 0b000 0b0000001 rd rs1 rs2
StandsFor w (Mulh rd rs1 rs2) = IsR w 0b0110011 0b001 0b0000001 rd rs1 rs2
StandsFor w (Mulhsu rd rs1 rs2) = IsR w 0b0110011 0b010 0b0000001 rd rs1 rs2
StandsFor w (Mulhu rd rs1 rs2) = IsR w 0b0110011 0b011 0b0000001 rd rs1 rs2
StandsFor w (Div rd rs1 rs2) = IsR w 0b0110011 0b100 0b0000001 rd rs1 rs2
StandsFor w (Divu rd rs1 rs2) = IsR w 0b0110011 0b101 0b0000001 rd rs1 rs2
StandsFor w (Rem rd rs1 rs2) = IsR w 0b0110011 0b110 0b0000001 rd rs1 rs2
StandsFor w (Remu rd rs1 rs2) = IsR w 0b0110011 0b111 0b0000001 rd rs1 rs2
StandsFor w (Fence word) = IsFence w word
StandsFor w Ecall = w ≡ 0b000000000000_00000_000_00000_1110011
StandsFor w Ebreak = w ≡ 0b000000000001_00000_000_00000_1110011
