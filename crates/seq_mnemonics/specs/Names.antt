-- The names of instructions, with the forms of their operands: the table that assembler and lister share.
use Rattle.std.specs.Prelude.{ℕ, List, Option, codes}
use Rattle.std.specs.List.{find}
use Rattle.std.specs.Str.{bytes_eq}
use Rattle.seq_mnemonics.specs.declared.table.TheConstants.{MNEMONICS}
use Rattle.seq_mnemonics.specs.declared.names.RegisterName.{RegisterName}
use Rattle.seq_mnemonics.specs.declared.names.RegisterName.TheVariants.{Add, Sub, Sll, Slt, Sltu, Xor, Srl, Sra, Or, And, Mul, Mulh, Mulhsu, Mulhu, Div, Divu, Rem, Remu}
use Rattle.seq_mnemonics.specs.declared.names.ImmediateName.{ImmediateName}
use Rattle.seq_mnemonics.specs.declared.names.ImmediateName.TheVariants.{Addi, Slti, Sltiu, Xori, Ori, Andi}
use Rattle.seq_mnemonics.specs.declared.names.ShiftName.{ShiftName}
use Rattle.seq_mnemonics.specs.declared.names.ShiftName.TheVariants.{Slli, Srli, Srai}
use Rattle.seq_mnemonics.specs.declared.names.IndirectName.{IndirectName}
use Rattle.seq_mnemonics.specs.declared.names.IndirectName.TheVariants.{Lb, Lh, Lw, Lbu, Lhu, Jalr}
use Rattle.seq_mnemonics.specs.declared.names.StoreName.{StoreName}
use Rattle.seq_mnemonics.specs.declared.names.StoreName.TheVariants.{Sb, Sh, Sw}
use Rattle.seq_mnemonics.specs.declared.names.BranchName.{BranchName}
use Rattle.seq_mnemonics.specs.declared.names.BranchName.TheVariants.{Beq, Bne, Blt, Bge, Bltu, Bgeu}
use Rattle.seq_mnemonics.specs.declared.names.UpperName.{UpperName}
use Rattle.seq_mnemonics.specs.declared.names.UpperName.TheVariants.{Lui, Auipc}
use Rattle.seq_mnemonics.specs.declared.names.PlainName.{PlainName}
use Rattle.seq_mnemonics.specs.declared.names.PlainName.TheVariants.{Fence, Ecall, Ebreak}
use Rattle.seq_mnemonics.specs.declared.names.Mnemonic.{Mnemonic}
use Rattle.seq_mnemonics.specs.declared.names.Mnemonic.TheVariants.{Registers, Immediate, Shift, Indirect, Store, Branch, Jump, Upper, Plain}

-- operands rd, rs1, rs2
abbrev pub register_text : RegisterName → List ℕ
register_text Add = codes "add"
register_text Sub = codes "sub"
register_text Sll = codes "sll"
register_text Slt = codes "slt"
register_text Sltu = codes "sltu"
register_text Xor = codes "xor"
register_text Srl = codes "srl"
register_text Sra = codes "sra"
register_text Or = codes "or"
register_text And = codes "and"
register_text Mul = codes "mul"
register_text Mulh = codes "mulh"
register_text Mulhsu = codes "mulhsu"
register_text Mulhu = codes "mulhu"
register_text Div = codes "div"
register_text Divu = codes "divu"
register_text Rem = codes "rem"
register_text Remu = codes "remu"

-- operands rd, rs1, imm
abbrev pub immediate_text : ImmediateName → List ℕ
immediate_text Addi = codes "addi"
immediate_text Slti = codes "slti"
immediate_text Sltiu = codes "sltiu"
immediate_text Xori = codes "xori"
immediate_text Ori = codes "ori"
immediate_text Andi = codes "andi"

-- operands rd, rs1, amount
abbrev pub shift_text : ShiftName → List ℕ
shift_text Slli = codes "slli"
shift_text Srli = codes "srli"
shift_text Srai = codes "srai"

-- operands rd, imm(rs1)
abbrev pub indirect_text : IndirectName → List ℕ
indirect_text Lb = codes "lb"
indirect_text Lh = codes "lh"
indirect_text Lw = codes "lw"
indirect_text Lbu = codes "lbu"
indirect_text Lhu = codes "lhu"
indirect_text Jalr = codes "jalr"

-- operands rs2, imm(rs1)
abbrev pub store_text : StoreName → List ℕ
store_text Sb = codes "sb"
store_text Sh = codes "sh"
store_text Sw = codes "sw"

-- operands rs1, rs2, target
abbrev pub branch_text : BranchName → List ℕ
branch_text Beq = codes "beq"
branch_text Bne = codes "bne"
branch_text Blt = codes "blt"
branch_text Bge = codes "bge"
branch_text Bltu = codes "bltu"
branch_text Bgeu = codes "bgeu"

-- operands rd, imm
abbrev pub upper_text : UpperName → List ℕ
upper_text Lui = codes "lui"
upper_text Auipc = codes "auipc"

-- no operands
abbrev pub plain_text : PlainName → List ℕ
plain_text Fence = codes "fence"
plain_text Ecall = codes "ecall"
plain_text Ebreak = codes "ebreak"

-- the text of a name; the operands of `jal` are rd, target
abbrev pub text_of : Mnemonic → List ℕ
text_of (Registers name) = register_text name
text_of (Immediate name) = immediate_text name
text_of (Shift name) = shift_text name
text_of (Indirect name) = indirect_text name
text_of (Store name) = store_text name
text_of (Branch name) = branch_text name
text_of Jump = codes "jal"
text_of (Upper name) = upper_text name
text_of (Plain name) = plain_text name

-- the name that a word is
unfoldable pub mnemonic_of : List ℕ → Option Mnemonic
mnemonic_of word = find (λ m. bytes_eq (text_of m) word) MNEMONICS
