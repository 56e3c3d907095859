-- An instruction whose operands are in their ranges has a word.
use Rattle.std.proofs.Common.{◌≡◌, ℕ, ◌<◌, ◌^◌, refl, sym, subst, arith}
use Rattle.std.specs.Prelude.{ℤ}
use mir.Syntax.{w32}
use mir.Val.{SFits, to_z, of_z}
use Rattle.std.proofs.lemmas.Int.{ints, to_z-of_z}
use Rattle.seq_isa.specs.InRange.{InRange, IsImmediate, IsOffset}
use Rattle.seq_mnemonics.specs.declared.names.RegisterName.{RegisterName}
use Rattle.seq_mnemonics.specs.declared.names.RegisterName.TheVariants.{Add}
use Rattle.seq_mnemonics.specs.declared.names.ImmediateName.{ImmediateName}
use Rattle.seq_mnemonics.specs.declared.names.ImmediateName.TheVariants.{Addi}
use Rattle.seq_mnemonics.specs.declared.names.ShiftName.{ShiftName}
use Rattle.seq_mnemonics.specs.declared.names.ShiftName.TheVariants.{Slli}
use Rattle.seq_mnemonics.specs.declared.names.IndirectName.{IndirectName}
use Rattle.seq_mnemonics.specs.declared.names.IndirectName.TheVariants.{Lb}
use Rattle.seq_mnemonics.specs.declared.names.StoreName.{StoreName}
use Rattle.seq_mnemonics.specs.declared.names.StoreName.TheVariants.{Sb}
use Rattle.seq_mnemonics.specs.declared.names.BranchName.{BranchName}
use Rattle.seq_mnemonics.specs.declared.names.BranchName.TheVariants.{Beq}
use Rattle.seq_mnemonics.specs.declared.names.UpperName.{UpperName}
use Rattle.seq_mnemonics.specs.declared.names.UpperName.TheVariants.{Lui}
use Rattle.seq_mnemonics.specs.declared.names.PlainName.{PlainName}
use Rattle.seq_mnemonics.specs.declared.names.PlainName.TheVariants.{Fence, Ecall, Ebreak}
use Rattle.seq_mnemonics.specs.declared.statement.Statement.TheVariants as statements
use Rattle.seq_mnemonics.specs.Statements.{register_instruction, immediate_instruction, shift_instruction, indirect_instruction, store_instruction, branch_instruction, upper_instruction, plain_instruction}
use Rattle.seq_source.specs.declared.items.Item.TheVariants as items
use Rattle.seq_source.specs.declared.items.Said.TheVariants.{Says}
use Rattle.seq_source.specs.Said.{HasWord}

pub registers_fit : (name : RegisterName) (rd rs1 rs2 : ℕ) → rd < 32 → rs1 < 32 → rs2 < 32 → InRange (register_instruction name rd rs1 rs2)
registers_fit Add rd rs1 rs2 a b c = (a, b, c)
registers_fit _ rd rs1 rs2 a b c = (a, b, c)

pub immediate_fits : (name : ImmediateName) (rd rs1 : ℕ) (imm : ℤ) → rd < 32 → rs1 < 32 → IsImmediate imm → InRange (immediate_instruction name rd rs1 imm)
immediate_fits Addi rd rs1 imm a b c = (a, b, c)
immediate_fits _ rd rs1 imm a b c = (a, b, c)

pub shift_fits : (name : ShiftName) (rd rs1 amount : ℕ) → rd < 32 → rs1 < 32 → amount < 32 → InRange (shift_instruction name rd rs1 amount)
shift_fits Slli rd rs1 amount a b c = (a, b, c)
shift_fits _ rd rs1 amount a b c = (a, b, c)

pub indirect_fits : (name : IndirectName) (rd rs1 : ℕ) (imm : ℤ) → rd < 32 → rs1 < 32 → IsImmediate imm → InRange (indirect_instruction name rd rs1 imm)
indirect_fits Lb rd rs1 imm a b c = (a, b, c)
indirect_fits _ rd rs1 imm a b c = (a, b, c)

pub store_fits : (name : StoreName) (rs1 rs2 : ℕ) (imm : ℤ) → rs1 < 32 → rs2 < 32 → IsImmediate imm → InRange (store_instruction name rs1 rs2 imm)
store_fits Sb rs1 rs2 imm a b c = (a, b, c)
store_fits _ rs1 rs2 imm a b c = (a, b, c)

pub branch_fits : (name : BranchName) (rs1 rs2 : ℕ) (offset : ℤ) → rs1 < 32 → rs2 < 32 → IsOffset 4096 offset → InRange (branch_instruction name rs1 rs2 offset)
branch_fits Beq rs1 rs2 offset a b c = (a, b, c)
branch_fits _ rs1 rs2 offset a b c = (a, b, c)

immediate_bounds : (z : ℤ) → IsImmediate z → SFits w32 z
immediate_bounds z h = let a = h.low in let b = h.high in grind (arith, ints)

branch_bounds : (z : ℤ) → IsOffset 4096 z → SFits w32 z
branch_bounds z h = let a = h.low in let b = h.high in grind (arith, ints)

jump_bounds : (z : ℤ) → IsOffset 1048576 z → SFits w32 z
jump_bounds z h = let a = h.low in let b = h.high in grind (arith, ints)

-- a number in its range is the same as its bits
pub branch_same : (z : ℤ) → IsOffset 4096 z → to_z w32 (of_z w32 z) ≡ z
branch_same z h = to_z-of_z w32 z (branch_bounds z h)

pub jump_same : (z : ℤ) → IsOffset 1048576 z → to_z w32 (of_z w32 z) ≡ z
jump_same z h = to_z-of_z w32 z (jump_bounds z h)

pub immediate_again : (z : ℤ) → IsImmediate z → IsImmediate (to_z w32 (of_z w32 z))
immediate_again z h = subst IsImmediate (sym (to_z-of_z w32 z (immediate_bounds z h))) h

pub branch_again : (z : ℤ) → IsOffset 4096 z → IsOffset 4096 (to_z w32 (of_z w32 z))
branch_again z h = subst (IsOffset 4096) (sym (to_z-of_z w32 z (branch_bounds z h))) h

pub jump_again : (z : ℤ) → IsOffset 1048576 z → IsOffset 1048576 (to_z w32 (of_z w32 z))
jump_again z h = subst (IsOffset 1048576) (sym (to_z-of_z w32 z (jump_bounds z h))) h

pub jump_fits : (rd : ℕ) (offset : ℤ) → rd < 32 → IsOffset 1048576 offset → HasWord (Says (items.Instruction (statements.Jump rd offset)))
jump_fits rd offset a b = (a, b)

pub upper_fits : (name : UpperName) (rd imm : ℕ) → rd < 32 → imm < 2 ^ 20 → InRange (upper_instruction name rd imm)
upper_fits Lui rd imm a b = (a, b)
upper_fits _ rd imm a b = (a, b)

pub plain_fits : (name : PlainName) → InRange (plain_instruction name)
plain_fits Fence = (refl, refl, omega arith)
plain_fits Ecall = tt
plain_fits Ebreak = tt
