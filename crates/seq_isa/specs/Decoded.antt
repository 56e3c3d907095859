-- The instruction that a word stands for, as a function: the row that the listing has for the word's opcode, funct3 and funct7, if there is one.
use Rattle.std.specs.Prelude.{ℕ, ℤ, if◌then◌else◌, ◌==◌, ◌||◌, Option, Some, None}
use Rattle.seq_isa.specs.Table.{opcode_of, rd_of, funct3_of, rs1_of, rs2_of, funct7_of, i_immediate, s_immediate, b_immediate, u_immediate, j_immediate}
use Rattle.seq_isa.specs.declared.instr.Instr.{Instr}
use Rattle.seq_isa.specs.declared.instr.Instr.TheVariants.{Lui, Auipc, Jal, Jalr, Beq, Bne, Blt, Bge, Bltu, Bgeu, Lb, Lh, Lw, Lbu, Lhu, Sb, Sh, Sw, Addi, Slti, Sltiu, Xori, Ori, Andi, Slli, Srli, Srai, Add, Sub, Sll, Slt, Sltu, Xor, Srl, Sra, Or, And, Mul, Mulh, Mulhsu, Mulhu, Div, Divu, Rem, Remu, Fence, Ecall, Ebreak}

-- the branch of a funct3
unfoldable pub branch_of : ℕ → ℕ → ℕ → ℤ → Option Instr
branch_of funct3 rs1 rs2 offset =
    if funct3 == 0b000 then Some (Beq rs1 rs2 offset) else (
    if funct3 == 0b001 then Some (Bne rs1 rs2 offset) else (
    if funct3 == 0b100 then Some (Blt rs1 rs2 offset) else (
    if funct3 == 0b101 then Some (Bge rs1 rs2 offset) else (
    if funct3 == 0b110 then Some (Bltu rs1 rs2 offset) else (
    if funct3 == 0b111 then Some (Bgeu rs1 rs2 offset) else (
    None))))))

-- the load of a funct3
unfoldable pub load_of : ℕ → ℕ → ℕ → ℤ → Option Instr
load_of funct3 rd rs1 imm =
    if funct3 == 0b000 then Some (Lb rd rs1 imm) else (
    if funct3 == 0b001 then Some (Lh rd rs1 imm) else (
    if funct3 == 0b010 then Some (Lw rd rs1 imm) else (
    if funct3 == 0b100 then Some (Lbu rd rs1 imm) else (
    if funct3 == 0b101 then Some (Lhu rd rs1 imm) else (
    None)))))

-- the store of a funct3
unfoldable pub store_of : ℕ → ℕ → ℕ → ℤ → Option Instr
store_of funct3 rs1 rs2 imm =
    if funct3 == 0b000 then Some (Sb rs1 rs2 imm) else (
    if funct3 == 0b001 then Some (Sh rs1 rs2 imm) else (
    if funct3 == 0b010 then Some (Sw rs1 rs2 imm) else (
    None)))

-- the operation on a register and an immediate of a funct3
unfoldable pub immediate_of : ℕ → ℕ → ℕ → ℤ → Option Instr
immediate_of funct3 rd rs1 imm =
    if funct3 == 0b000 then Some (Addi rd rs1 imm) else (
    if funct3 == 0b010 then Some (Slti rd rs1 imm) else (
    if funct3 == 0b011 then Some (Sltiu rd rs1 imm) else (
    if funct3 == 0b100 then Some (Xori rd rs1 imm) else (
    if funct3 == 0b110 then Some (Ori rd rs1 imm) else (
    if funct3 == 0b111 then Some (Andi rd rs1 imm) else (
    None))))))

-- the shift by an immediate amount of a funct3 and a funct7
unfoldable pub shift_of : ℕ → ℕ → ℕ → ℕ → ℕ → Option Instr
shift_of funct3 funct7 rd rs1 amount =
    if funct7 == 0b0000000 then (
    if funct3 == 0b001 then Some (Slli rd rs1 amount) else (
    if funct3 == 0b101 then Some (Srli rd rs1 amount) else (
    None))) else (
    if funct7 == 0b0100000 then (
    if funct3 == 0b101 then Some (Srai rd rs1 amount) else (
    None)) else (
    None))

-- the operation on two registers of a funct3, where funct7 is zero
unfoldable pub base_of : ℕ → ℕ → ℕ → ℕ → Option Instr
base_of funct3 rd rs1 rs2 =
    if funct3 == 0b000 then Some (Add rd rs1 rs2) else (
    if funct3 == 0b001 then Some (Sll rd rs1 rs2) else (
    if funct3 == 0b010 then Some (Slt rd rs1 rs2) else (
    if funct3 == 0b011 then Some (Sltu rd rs1 rs2) else (
    if funct3 == 0b100 then Some (Xor rd rs1 rs2) else (
    if funct3 == 0b101 then Some (Srl rd rs1 rs2) else (
    if funct3 == 0b110 then Some (Or rd rs1 rs2) else (
    if funct3 == 0b111 then Some (And rd rs1 rs2) else (
    None))))))))

-- where bit 30 of the word is set: subtraction and the arithmetic shift
unfoldable pub alternate_of : ℕ → ℕ → ℕ → ℕ → Option Instr
alternate_of funct3 rd rs1 rs2 =
    if funct3 == 0b000 then Some (Sub rd rs1 rs2) else (
    if funct3 == 0b101 then Some (Sra rd rs1 rs2) else (
    None))

-- of the extension M
unfoldable pub multiply_of : ℕ → ℕ → ℕ → ℕ → Option Instr
multiply_of funct3 rd rs1 rs2 =
    if funct3 == 0b000 then Some (Mul rd rs1 rs2) else (
    if funct3 == 0b001 then Some (Mulh rd rs1 rs2) else (
    if funct3 == 0b010 then Some (Mulhsu rd rs1 rs2) else (
    if funct3 == 0b011 then Some (Mulhu rd rs1 rs2) else (
    if funct3 == 0b100 then Some (Div rd rs1 rs2) else (
    if funct3 == 0b101 then Some (Divu rd rs1 rs2) else (
    if funct3 == 0b110 then Some (Rem rd rs1 rs2) else (
    if funct3 == 0b111 then Some (Remu rd rs1 rs2) else (
    None))))))))

-- the operation on two registers of a funct3 and a funct7
unfoldable pub register_of : ℕ → ℕ → ℕ → ℕ → ℕ → Option Instr
register_of funct3 funct7 rd rs1 rs2 =
    if funct7 == 0b0000000 then base_of funct3 rd rs1 rs2 else (
    if funct7 == 0b0100000 then alternate_of funct3 rd rs1 rs2 else (
    if funct7 == 0b0000001 then multiply_of funct3 rd rs1 rs2 else (
    None)))

-- the environment call and the breakpoint, which are one word each
unfoldable pub system_of : ℕ → Option Instr
system_of w =
    if w == 0x00000073 then Some Ecall else (
    if w == 0x00100073 then Some Ebreak else (
    None))

-- the instruction of a word
unfoldable pub decode_of : ℕ → Option Instr
decode_of w =
    if opcode_of w == 0b0110111 then Some (Lui (rd_of w) (u_immediate w)) else (
    if opcode_of w == 0b0010111 then Some (Auipc (rd_of w) (u_immediate w)) else (
    if opcode_of w == 0b1101111 then Some (Jal (rd_of w) (j_immediate w)) else (
    if opcode_of w == 0b1100111 then (if funct3_of w == 0b000 then Some (Jalr (rd_of w) (rs1_of w) (i_immediate w)) else None) else (
    if opcode_of w == 0b1100011 then branch_of (funct3_of w) (rs1_of w) (rs2_of w) (b_immediate w) else (
    if opcode_of w == 0b0000011 then load_of (funct3_of w) (rd_of w) (rs1_of w) (i_immediate w) else (
    if opcode_of w == 0b0100011 then store_of (funct3_of w) (rs1_of w) (rs2_of w) (s_immediate w) else (
    if opcode_of w == 0b0010011 then (if (funct3_of w == 0b001) || (funct3_of w == 0b101) then shift_of (funct3_of w) (funct7_of w) (rd_of w) (rs1_of w) (rs2_of w) else immediate_of (funct3_of w) (rd_of w) (rs1_of w) (i_immediate w)) else (
    if opcode_of w == 0b0110011 then register_of (funct3_of w) (funct7_of w) (rd_of w) (rs1_of w) (rs2_of w) else (
    if opcode_of w == 0b0001111 then (if funct3_of w == 0b000 then Some (Fence w) else None) else (
    if opcode_of w == 0b1110011 then system_of w else (
    None)))))))))))
