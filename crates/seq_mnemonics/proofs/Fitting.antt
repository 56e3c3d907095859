-- The ranges of a statement's operands are those of its instruction.
use Rattle.std.proofs.Common.{◌==◌, Bool, true, false, cond, Some, None, IfSome, lit<, refl}
use Rattle.seq_isa.specs.InRange.{InRange}
use Rattle.seq_isa.specs.declared.instr.Instr.{Instr}
use Rattle.seq_isa.specs.declared.instr.Instr.TheVariants.{Lui, Auipc, Jal, Jalr, Beq, Bne, Blt, Bge, Bltu, Bgeu, Lb, Lh, Lw, Lbu, Lhu, Sb, Sh, Sw, Addi, Slti, Sltiu, Xori, Ori, Andi, Slli, Srli, Srai, Add, Sub, Sll, Slt, Sltu, Xor, Srl, Sra, Or, And, Mul, Mulh, Mulhsu, Mulhu, Div, Divu, Rem, Remu, Fence, Ecall, Ebreak}
use Rattle.seq_mnemonics.specs.declared.names.RegisterName.TheVariants.{Add as AddName, Sub as SubName, Sll as SllName, Slt as SltName, Sltu as SltuName, Xor as XorName, Srl as SrlName, Sra as SraName, Or as OrName, And as AndName, Mul as MulName, Mulh as MulhName, Mulhsu as MulhsuName, Mulhu as MulhuName, Div as DivName, Divu as DivuName, Rem as RemName, Remu as RemuName}
use Rattle.seq_mnemonics.specs.declared.names.ImmediateName.TheVariants.{Addi as AddiName, Slti as SltiName, Sltiu as SltiuName, Xori as XoriName, Ori as OriName, Andi as AndiName}
use Rattle.seq_mnemonics.specs.declared.names.ShiftName.TheVariants.{Slli as SlliName, Srli as SrliName, Srai as SraiName}
use Rattle.seq_mnemonics.specs.declared.names.IndirectName.TheVariants.{Lb as LbName, Lh as LhName, Lw as LwName, Lbu as LbuName, Lhu as LhuName, Jalr as JalrName}
use Rattle.seq_mnemonics.specs.declared.names.StoreName.TheVariants.{Sb as SbName, Sh as ShName, Sw as SwName}
use Rattle.seq_mnemonics.specs.declared.names.BranchName.TheVariants.{Beq as BeqName, Bne as BneName, Blt as BltName, Bge as BgeName, Bltu as BltuName, Bgeu as BgeuName}
use Rattle.seq_mnemonics.specs.declared.names.UpperName.TheVariants.{Lui as LuiName, Auipc as AuipcName}
use Rattle.seq_mnemonics.specs.declared.names.PlainName.TheVariants.{Fence as FenceName, Ecall as EcallName, Ebreak as EbreakName}
use Rattle.seq_mnemonics.specs.declared.statement.Statement.TheVariants.{Registers, Immediate, Shift, Indirect, Store, Branch, Jump, Upper, Plain}
use Rattle.seq_mnemonics.specs.Laws.{RangesAreExact}
use Rattle.seq_mnemonics.specs.Statements.{statement_of}
use Rattle.seq_mnemonics.specs.Ranges.{OperandsFit}

-- the statement of an instruction in range
pub statement_fits : (i : Instr) → InRange i → IfSome (statement_of i) OperandsFit
statement_fits (Add rd rs1 rs2) h = h
statement_fits (Sub rd rs1 rs2) h = h
statement_fits (Sll rd rs1 rs2) h = h
statement_fits (Slt rd rs1 rs2) h = h
statement_fits (Sltu rd rs1 rs2) h = h
statement_fits (Xor rd rs1 rs2) h = h
statement_fits (Srl rd rs1 rs2) h = h
statement_fits (Sra rd rs1 rs2) h = h
statement_fits (Or rd rs1 rs2) h = h
statement_fits (And rd rs1 rs2) h = h
statement_fits (Mul rd rs1 rs2) h = h
statement_fits (Mulh rd rs1 rs2) h = h
statement_fits (Mulhsu rd rs1 rs2) h = h
statement_fits (Mulhu rd rs1 rs2) h = h
statement_fits (Div rd rs1 rs2) h = h
statement_fits (Divu rd rs1 rs2) h = h
statement_fits (Rem rd rs1 rs2) h = h
statement_fits (Remu rd rs1 rs2) h = h
statement_fits (Addi rd rs1 imm) h = h
statement_fits (Slti rd rs1 imm) h = h
statement_fits (Sltiu rd rs1 imm) h = h
statement_fits (Xori rd rs1 imm) h = h
statement_fits (Ori rd rs1 imm) h = h
statement_fits (Andi rd rs1 imm) h = h
statement_fits (Slli rd rs1 amount) h = h
statement_fits (Srli rd rs1 amount) h = h
statement_fits (Srai rd rs1 amount) h = h
statement_fits (Lb rd rs1 imm) h = h
statement_fits (Lh rd rs1 imm) h = h
statement_fits (Lw rd rs1 imm) h = h
statement_fits (Lbu rd rs1 imm) h = h
statement_fits (Lhu rd rs1 imm) h = h
statement_fits (Jalr rd rs1 imm) h = h
statement_fits (Sb rs1 rs2 imm) h = h
statement_fits (Sh rs1 rs2 imm) h = h
statement_fits (Sw rs1 rs2 imm) h = h
statement_fits (Beq rs1 rs2 offset) h = h
statement_fits (Bne rs1 rs2 offset) h = h
statement_fits (Blt rs1 rs2 offset) h = h
statement_fits (Bge rs1 rs2 offset) h = h
statement_fits (Bltu rs1 rs2 offset) h = h
statement_fits (Bgeu rs1 rs2 offset) h = h
statement_fits (Lui rd imm) h = h
statement_fits (Auipc rd imm) h = h
statement_fits (Jal rd offset) h = h
statement_fits (Fence word) h = plain (word == 0x0ff0000f)
  where
    plain : (t : Bool) → IfSome (cond t (Some (Plain FenceName)) None) OperandsFit
    plain true = tt
    plain false = tt
statement_fits Ecall h = tt
statement_fits Ebreak h = tt

pub ranges_are_exact : RangesAreExact
ranges_are_exact (Registers AddName rd rs1 rs2) = (λ h. h, λ h. h)
ranges_are_exact (Registers SubName rd rs1 rs2) = (λ h. h, λ h. h)
ranges_are_exact (Registers SllName rd rs1 rs2) = (λ h. h, λ h. h)
ranges_are_exact (Registers SltName rd rs1 rs2) = (λ h. h, λ h. h)
ranges_are_exact (Registers SltuName rd rs1 rs2) = (λ h. h, λ h. h)
ranges_are_exact (Registers XorName rd rs1 rs2) = (λ h. h, λ h. h)
ranges_are_exact (Registers SrlName rd rs1 rs2) = (λ h. h, λ h. h)
ranges_are_exact (Registers SraName rd rs1 rs2) = (λ h. h, λ h. h)
ranges_are_exact (Registers OrName rd rs1 rs2) = (λ h. h, λ h. h)
ranges_are_exact (Registers AndName rd rs1 rs2) = (λ h. h, λ h. h)
ranges_are_exact (Registers MulName rd rs1 rs2) = (λ h. h, λ h. h)
ranges_are_exact (Registers MulhName rd rs1 rs2) = (λ h. h, λ h. h)
ranges_are_exact (Registers MulhsuName rd rs1 rs2) = (λ h. h, λ h. h)
ranges_are_exact (Registers MulhuName rd rs1 rs2) = (λ h. h, λ h. h)
ranges_are_exact (Registers DivName rd rs1 rs2) = (λ h. h, λ h. h)
ranges_are_exact (Registers DivuName rd rs1 rs2) = (λ h. h, λ h. h)
ranges_are_exact (Registers RemName rd rs1 rs2) = (λ h. h, λ h. h)
ranges_are_exact (Registers RemuName rd rs1 rs2) = (λ h. h, λ h. h)
ranges_are_exact (Immediate AddiName rd rs1 imm) = (λ h. h, λ h. h)
ranges_are_exact (Immediate SltiName rd rs1 imm) = (λ h. h, λ h. h)
ranges_are_exact (Immediate SltiuName rd rs1 imm) = (λ h. h, λ h. h)
ranges_are_exact (Immediate XoriName rd rs1 imm) = (λ h. h, λ h. h)
ranges_are_exact (Immediate OriName rd rs1 imm) = (λ h. h, λ h. h)
ranges_are_exact (Immediate AndiName rd rs1 imm) = (λ h. h, λ h. h)
ranges_are_exact (Shift SlliName rd rs1 amount) = (λ h. h, λ h. h)
ranges_are_exact (Shift SrliName rd rs1 amount) = (λ h. h, λ h. h)
ranges_are_exact (Shift SraiName rd rs1 amount) = (λ h. h, λ h. h)
ranges_are_exact (Indirect LbName rd rs1 imm) = (λ h. h, λ h. h)
ranges_are_exact (Indirect LhName rd rs1 imm) = (λ h. h, λ h. h)
ranges_are_exact (Indirect LwName rd rs1 imm) = (λ h. h, λ h. h)
ranges_are_exact (Indirect LbuName rd rs1 imm) = (λ h. h, λ h. h)
ranges_are_exact (Indirect LhuName rd rs1 imm) = (λ h. h, λ h. h)
ranges_are_exact (Indirect JalrName rd rs1 imm) = (λ h. h, λ h. h)
ranges_are_exact (Store SbName rs1 rs2 imm) = (λ h. h, λ h. h)
ranges_are_exact (Store ShName rs1 rs2 imm) = (λ h. h, λ h. h)
ranges_are_exact (Store SwName rs1 rs2 imm) = (λ h. h, λ h. h)
ranges_are_exact (Branch BeqName rs1 rs2 offset) = (λ h. h, λ h. h)
ranges_are_exact (Branch BneName rs1 rs2 offset) = (λ h. h, λ h. h)
ranges_are_exact (Branch BltName rs1 rs2 offset) = (λ h. h, λ h. h)
ranges_are_exact (Branch BgeName rs1 rs2 offset) = (λ h. h, λ h. h)
ranges_are_exact (Branch BltuName rs1 rs2 offset) = (λ h. h, λ h. h)
ranges_are_exact (Branch BgeuName rs1 rs2 offset) = (λ h. h, λ h. h)
ranges_are_exact (Upper LuiName rd imm) = (λ h. h, λ h. h)
ranges_are_exact (Upper AuipcName rd imm) = (λ h. h, λ h. h)
ranges_are_exact (Jump rd offset) = (λ h. h, λ h. h)
ranges_are_exact (Plain FenceName) = (λ h. (refl, refl, lit< tt), λ h. tt)
ranges_are_exact (Plain EcallName) = (λ h. h, λ h. h)
ranges_are_exact (Plain EbreakName) = (λ h. h, λ h. h)
