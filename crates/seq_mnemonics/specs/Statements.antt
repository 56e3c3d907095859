-- Instructions as a source has them: a name with its operands.
use Rattle.std.specs.Prelude.{ℕ, ℤ, if◌then◌else◌, ◌==◌, Option, Some, None}
use Rattle.seq_isa.specs.declared.instr.Instr.{Instr}
use Rattle.seq_isa.specs.declared.instr.Instr.TheVariants.{Lui, Auipc, Jal, Jalr, Beq, Bne, Blt, Bge, Bltu, Bgeu, Lb, Lh, Lw, Lbu, Lhu, Sb, Sh, Sw, Addi, Slti, Sltiu, Xori, Ori, Andi, Slli, Srli, Srai, Add, Sub, Sll, Slt, Sltu, Xor, Srl, Sra, Or, And, Mul, Mulh, Mulhsu, Mulhu, Div, Divu, Rem, Remu, Fence, Ecall, Ebreak}
use Rattle.seq_mnemonics.specs.declared.names.RegisterName.{RegisterName}
use Rattle.seq_mnemonics.specs.declared.names.RegisterName.TheVariants.{Add as AddName, Sub as SubName, Sll as SllName, Slt as SltName, Sltu as SltuName, Xor as XorName, Srl as SrlName, Sra as SraName, Or as OrName, And as AndName, Mul as MulName, Mulh as MulhName, Mulhsu as MulhsuName, Mulhu as MulhuName, Div as DivName, Divu as DivuName, Rem as RemName, Remu as RemuName}
use Rattle.seq_mnemonics.specs.declared.names.ImmediateName.{ImmediateName}
use Rattle.seq_mnemonics.specs.declared.names.ImmediateName.TheVariants.{Addi as AddiName, Slti as SltiName, Sltiu as SltiuName, Xori as XoriName, Ori as OriName, Andi as AndiName}
use Rattle.seq_mnemonics.specs.declared.names.ShiftName.{ShiftName}
use Rattle.seq_mnemonics.specs.declared.names.ShiftName.TheVariants.{Slli as SlliName, Srli as SrliName, Srai as SraiName}
use Rattle.seq_mnemonics.specs.declared.names.IndirectName.{IndirectName}
use Rattle.seq_mnemonics.specs.declared.names.IndirectName.TheVariants.{Lb as LbName, Lh as LhName, Lw as LwName, Lbu as LbuName, Lhu as LhuName, Jalr as JalrName}
use Rattle.seq_mnemonics.specs.declared.names.StoreName.{StoreName}
use Rattle.seq_mnemonics.specs.declared.names.StoreName.TheVariants.{Sb as SbName, Sh as ShName, Sw as SwName}
use Rattle.seq_mnemonics.specs.declared.names.BranchName.{BranchName}
use Rattle.seq_mnemonics.specs.declared.names.BranchName.TheVariants.{Beq as BeqName, Bne as BneName, Blt as BltName, Bge as BgeName, Bltu as BltuName, Bgeu as BgeuName}
use Rattle.seq_mnemonics.specs.declared.names.UpperName.{UpperName}
use Rattle.seq_mnemonics.specs.declared.names.UpperName.TheVariants.{Lui as LuiName, Auipc as AuipcName}
use Rattle.seq_mnemonics.specs.declared.names.PlainName.{PlainName}
use Rattle.seq_mnemonics.specs.declared.names.PlainName.TheVariants.{Fence as FenceName, Ecall as EcallName, Ebreak as EbreakName}
use Rattle.seq_mnemonics.specs.declared.names.Mnemonic.{Mnemonic}
use Rattle.seq_mnemonics.specs.declared.names.Mnemonic.TheVariants.{Registers as RegistersForm, Immediate as ImmediateForm, Shift as ShiftForm, Indirect as IndirectForm, Store as StoreForm, Branch as BranchForm, Jump as JumpForm, Upper as UpperForm, Plain as PlainForm}
use Rattle.seq_mnemonics.specs.declared.statement.Statement.{Statement}
use Rattle.seq_mnemonics.specs.declared.statement.Statement.TheVariants.{Registers, Immediate, Shift, Indirect, Store, Branch, Jump, Upper, Plain}

-- operands rd, rs1, rs2
abbrev pub register_instruction : RegisterName → ℕ → ℕ → ℕ → Instr
register_instruction AddName rd rs1 rs2 = Add rd rs1 rs2
register_instruction SubName rd rs1 rs2 = Sub rd rs1 rs2
register_instruction SllName rd rs1 rs2 = Sll rd rs1 rs2
register_instruction SltName rd rs1 rs2 = Slt rd rs1 rs2
register_instruction SltuName rd rs1 rs2 = Sltu rd rs1 rs2
register_instruction XorName rd rs1 rs2 = Xor rd rs1 rs2
register_instruction SrlName rd rs1 rs2 = Srl rd rs1 rs2
register_instruction SraName rd rs1 rs2 = Sra rd rs1 rs2
register_instruction OrName rd rs1 rs2 = Or rd rs1 rs2
register_instruction AndName rd rs1 rs2 = And rd rs1 rs2
register_instruction MulName rd rs1 rs2 = Mul rd rs1 rs2
register_instruction MulhName rd rs1 rs2 = Mulh rd rs1 rs2
register_instruction MulhsuName rd rs1 rs2 = Mulhsu rd rs1 rs2
register_instruction MulhuName rd rs1 rs2 = Mulhu rd rs1 rs2
register_instruction DivName rd rs1 rs2 = Div rd rs1 rs2
register_instruction DivuName rd rs1 rs2 = Divu rd rs1 rs2
register_instruction RemName rd rs1 rs2 = Rem rd rs1 rs2
register_instruction RemuName rd rs1 rs2 = Remu rd rs1 rs2

-- operands rd, rs1, imm
abbrev pub immediate_instruction : ImmediateName → ℕ → ℕ → ℤ → Instr
immediate_instruction AddiName rd rs1 imm = Addi rd rs1 imm
immediate_instruction SltiName rd rs1 imm = Slti rd rs1 imm
immediate_instruction SltiuName rd rs1 imm = Sltiu rd rs1 imm
immediate_instruction XoriName rd rs1 imm = Xori rd rs1 imm
immediate_instruction OriName rd rs1 imm = Ori rd rs1 imm
immediate_instruction AndiName rd rs1 imm = Andi rd rs1 imm

-- operands rd, rs1, amount
abbrev pub shift_instruction : ShiftName → ℕ → ℕ → ℕ → Instr
shift_instruction SlliName rd rs1 amount = Slli rd rs1 amount
shift_instruction SrliName rd rs1 amount = Srli rd rs1 amount
shift_instruction SraiName rd rs1 amount = Srai rd rs1 amount

-- operands rd, imm(rs1)
abbrev pub indirect_instruction : IndirectName → ℕ → ℕ → ℤ → Instr
indirect_instruction LbName rd rs1 imm = Lb rd rs1 imm
indirect_instruction LhName rd rs1 imm = Lh rd rs1 imm
indirect_instruction LwName rd rs1 imm = Lw rd rs1 imm
indirect_instruction LbuName rd rs1 imm = Lbu rd rs1 imm
indirect_instruction LhuName rd rs1 imm = Lhu rd rs1 imm
indirect_instruction JalrName rd rs1 imm = Jalr rd rs1 imm

-- operands rs2, imm(rs1)
abbrev pub store_instruction : StoreName → ℕ → ℕ → ℤ → Instr
store_instruction SbName rs1 rs2 imm = Sb rs1 rs2 imm
store_instruction ShName rs1 rs2 imm = Sh rs1 rs2 imm
store_instruction SwName rs1 rs2 imm = Sw rs1 rs2 imm

-- operands rs1, rs2, target
abbrev pub branch_instruction : BranchName → ℕ → ℕ → ℤ → Instr
branch_instruction BeqName rs1 rs2 offset = Beq rs1 rs2 offset
branch_instruction BneName rs1 rs2 offset = Bne rs1 rs2 offset
branch_instruction BltName rs1 rs2 offset = Blt rs1 rs2 offset
branch_instruction BgeName rs1 rs2 offset = Bge rs1 rs2 offset
branch_instruction BltuName rs1 rs2 offset = Bltu rs1 rs2 offset
branch_instruction BgeuName rs1 rs2 offset = Bgeu rs1 rs2 offset

-- operands rd, imm
abbrev pub upper_instruction : UpperName → ℕ → ℕ → Instr
upper_instruction LuiName rd imm = Lui rd imm
upper_instruction AuipcName rd imm = Auipc rd imm

-- no operands; the word of `fence` is 0x0ff0000f
abbrev pub plain_instruction : PlainName → Instr
plain_instruction FenceName = Fence 0x0ff0000f
plain_instruction EcallName = Ecall
plain_instruction EbreakName = Ebreak

-- the instruction that a statement stands for
abbrev pub instruction_of : Statement → Instr
instruction_of (Registers name rd rs1 rs2) = register_instruction name rd rs1 rs2
instruction_of (Immediate name rd rs1 imm) = immediate_instruction name rd rs1 imm
instruction_of (Shift name rd rs1 amount) = shift_instruction name rd rs1 amount
instruction_of (Indirect name rd rs1 imm) = indirect_instruction name rd rs1 imm
instruction_of (Store name rs1 rs2 imm) = store_instruction name rs1 rs2 imm
instruction_of (Branch name rs1 rs2 offset) = branch_instruction name rs1 rs2 offset
instruction_of (Jump rd offset) = Jal rd offset
instruction_of (Upper name rd imm) = upper_instruction name rd imm
instruction_of (Plain name) = plain_instruction name

-- a statement's name
abbrev pub name_of : Statement → Mnemonic
name_of (Registers name rd rs1 rs2) = RegistersForm name
name_of (Immediate name rd rs1 imm) = ImmediateForm name
name_of (Shift name rd rs1 amount) = ShiftForm name
name_of (Indirect name rd rs1 imm) = IndirectForm name
name_of (Store name rs1 rs2 imm) = StoreForm name
name_of (Branch name rs1 rs2 offset) = BranchForm name
name_of (Jump rd offset) = JumpForm
name_of (Upper name rd imm) = UpperForm name
name_of (Plain name) = PlainForm name

-- the statement of an instruction: a fence has one only where its word is that of `fence`
abbrev pub statement_of : Instr → Option Statement
statement_of (Add rd rs1 rs2) = Some (Registers AddName rd rs1 rs2)
statement_of (Sub rd rs1 rs2) = Some (Registers SubName rd rs1 rs2)
statement_of (Sll rd rs1 rs2) = Some (Registers SllName rd rs1 rs2)
statement_of (Slt rd rs1 rs2) = Some (Registers SltName rd rs1 rs2)
statement_of (Sltu rd rs1 rs2) = Some (Registers SltuName rd rs1 rs2)
statement_of (Xor rd rs1 rs2) = Some (Registers XorName rd rs1 rs2)
statement_of (Srl rd rs1 rs2) = Some (Registers SrlName rd rs1 rs2)
statement_of (Sra rd rs1 rs2) = Some (Registers SraName rd rs1 rs2)
statement_of (Or rd rs1 rs2) = Some (Registers OrName rd rs1 rs2)
statement_of (And rd rs1 rs2) = Some (Registers AndName rd rs1 rs2)
statement_of (Mul rd rs1 rs2) = Some (Registers MulName rd rs1 rs2)
statement_of (Mulh rd rs1 rs2) = Some (Registers MulhName rd rs1 rs2)
statement_of (Mulhsu rd rs1 rs2) = Some (Registers MulhsuName rd rs1 rs2)
statement_of (Mulhu rd rs1 rs2) = Some (Registers MulhuName rd rs1 rs2)
statement_of (Div rd rs1 rs2) = Some (Registers DivName rd rs1 rs2)
statement_of (Divu rd rs1 rs2) = Some (Registers DivuName rd rs1 rs2)
statement_of (Rem rd rs1 rs2) = Some (Registers RemName rd rs1 rs2)
statement_of (Remu rd rs1 rs2) = Some (Registers RemuName rd rs1 rs2)
statement_of (Addi rd rs1 imm) = Some (Immediate AddiName rd rs1 imm)
statement_of (Slti rd rs1 imm) = Some (Immediate SltiName rd rs1 imm)
statement_of (Sltiu rd rs1 imm) = Some (Immediate SltiuName rd rs1 imm)
statement_of (Xori rd rs1 imm) = Some (Immediate XoriName rd rs1 imm)
statement_of (Ori rd rs1 imm) = Some (Immediate OriName rd rs1 imm)
statement_of (Andi rd rs1 imm) = Some (Immediate AndiName rd rs1 imm)
statement_of (Slli rd rs1 amount) = Some (Shift SlliName rd rs1 amount)
statement_of (Srli rd rs1 amount) = Some (Shift SrliName rd rs1 amount)
statement_of (Srai rd rs1 amount) = Some (Shift SraiName rd rs1 amount)
statement_of (Lb rd rs1 imm) = Some (Indirect LbName rd rs1 imm)
statement_of (Lh rd rs1 imm) = Some (Indirect LhName rd rs1 imm)
statement_of (Lw rd rs1 imm) = Some (Indirect LwName rd rs1 imm)
statement_of (Lbu rd rs1 imm) = Some (Indirect LbuName rd rs1 imm)
statement_of (Lhu rd rs1 imm) = Some (Indirect LhuName rd rs1 imm)
statement_of (Jalr rd rs1 imm) = Some (Indirect JalrName rd rs1 imm)
statement_of (Sb rs1 rs2 imm) = Some (Store SbName rs1 rs2 imm)
statement_of (Sh rs1 rs2 imm) = Some (Store ShName rs1 rs2 imm)
statement_of (Sw rs1 rs2 imm) = Some (Store SwName rs1 rs2 imm)
statement_of (Beq rs1 rs2 offset) = Some (Branch BeqName rs1 rs2 offset)
statement_of (Bne rs1 rs2 offset) = Some (Branch BneName rs1 rs2 offset)
statement_of (Blt rs1 rs2 offset) = Some (Branch BltName rs1 rs2 offset)
statement_of (Bge rs1 rs2 offset) = Some (Branch BgeName rs1 rs2 offset)
statement_of (Bltu rs1 rs2 offset) = Some (Branch BltuName rs1 rs2 offset)
statement_of (Bgeu rs1 rs2 offset) = Some (Branch BgeuName rs1 rs2 offset)
statement_of (Lui rd imm) = Some (Upper LuiName rd imm)
statement_of (Auipc rd imm) = Some (Upper AuipcName rd imm)
statement_of (Jal rd offset) = Some (Jump rd offset)
statement_of (Fence word) = if word == 0x0ff0000f then Some (Plain FenceName) else None
statement_of Ecall = Some (Plain EcallName)
statement_of Ebreak = Some (Plain EbreakName)
