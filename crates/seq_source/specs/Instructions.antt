-- What instructions say.
use Rattle.std.specs.Prelude.{ℕ, ◌-◌, ◌^◌, ◌&&◌, ◌==◌, nat_lt, ℤ, if◌then◌else◌, Option, Some, None, List, length, take, slice_index}
use Rattle.std.specs.List.{position_or_len, before_first, after_first}
use Rattle.std.specs.Option.{option_and_then}
use Rattle.seq_mnemonics.specs.declared.names.RegisterName.{RegisterName}
use Rattle.seq_mnemonics.specs.declared.names.ImmediateName.{ImmediateName}
use Rattle.seq_mnemonics.specs.declared.names.ShiftName.{ShiftName}
use Rattle.seq_mnemonics.specs.declared.names.IndirectName.{IndirectName}
use Rattle.seq_mnemonics.specs.declared.names.StoreName.{StoreName}
use Rattle.seq_mnemonics.specs.declared.names.BranchName.{BranchName}
use Rattle.seq_mnemonics.specs.declared.names.UpperName.{UpperName}
use Rattle.seq_mnemonics.specs.declared.names.Mnemonic.{Mnemonic}
use Rattle.seq_mnemonics.specs.declared.names.Mnemonic.TheVariants as forms
use Rattle.seq_mnemonics.specs.declared.statement.Statement.TheVariants as statements
use Rattle.seq_mnemonics.specs.Registers.{register_of}
use Rattle.seq_source.specs.declared.items.Item.TheVariants as items
use Rattle.seq_source.specs.declared.items.Said.{Said}
use Rattle.seq_source.specs.declared.items.Said.TheVariants.{Says}
use Rattle.seq_source.specs.Names.{is_label}
use Rattle.seq_source.specs.Numbers.{number_written, immediate_of, offset_of, below}
use Rattle.seq_source.specs.Operands.{operands_in}
use Rattle.seq_source.specs.Forms.{with_two, with_three, given, in_range, alone_said}

-- rd, rs1, rs2
unfoldable pub registers_said : RegisterName → List ℕ → List ℕ → List ℕ → Said
registers_said name a b c =
    given (register_of a) (λ rd. given (register_of b) (λ rs1. given (register_of c) (λ rs2.
    Says (items.Instruction (statements.Registers name rd rs1 rs2)))))

-- rd, rs1, imm
unfoldable pub immediate_said : ImmediateName → List ℕ → List ℕ → List ℕ → Said
immediate_said name a b c =
    given (register_of a) (λ rd. given (register_of b) (λ rs1. given (number_written c) (λ z.
    in_range (immediate_of z) (λ imm. items.Instruction (statements.Immediate name rd rs1 imm)))))

-- rd, rs1, amount
unfoldable pub shift_said : ShiftName → List ℕ → List ℕ → List ℕ → Said
shift_said name a b c =
    given (register_of a) (λ rd. given (register_of b) (λ rs1. given (number_written c) (λ z.
    in_range (below 32 z) (λ amount. items.Instruction (statements.Shift name rd rs1 amount)))))

-- imm(rs1), where neither part holds a parenthesis
unfoldable pub displacement_of : List ℕ → Option ℤ
displacement_of operand = number_written (before_first (λ byte. byte == 40) operand)

unfoldable pub closed : List ℕ → Option (List ℕ)
closed behind =
    if nat_lt 0 (length behind) && (slice_index behind (length behind - 1) == 41)
    then Some (take (length behind - 1) behind) else None

unfoldable pub base_of : List ℕ → Option ℕ
base_of operand =
    if nat_lt (position_or_len (λ byte. byte == 40) operand) (length operand)
    then option_and_then register_of (closed (after_first (λ byte. byte == 40) operand)) else None

-- rd, imm(rs1)
unfoldable pub indirect_said : IndirectName → List ℕ → List ℕ → Said
indirect_said name a b =
    given (register_of a) (λ rd. given (displacement_of b) (λ z. given (base_of b) (λ rs1.
    in_range (immediate_of z) (λ imm. items.Instruction (statements.Indirect name rd rs1 imm)))))

-- rs2, imm(rs1)
unfoldable pub store_said : StoreName → List ℕ → List ℕ → Said
store_said name a b =
    given (register_of a) (λ rs2. given (displacement_of b) (λ z. given (base_of b) (λ rs1.
    in_range (immediate_of z) (λ imm. items.Instruction (statements.Store name rs1 rs2 imm)))))

-- rs1, rs2, target: a target is a label, or a number that is the offset
unfoldable pub branch_said : BranchName → List ℕ → List ℕ → List ℕ → Said
branch_said name a b target =
    given (register_of a) (λ rs1. given (register_of b) (λ rs2.
    if is_label target then Says (items.Branch name rs1 rs2)
    else given (number_written target) (λ z.
    in_range (offset_of 4096 z) (λ offset. items.Instruction (statements.Branch name rs1 rs2 offset)))))

-- rd, target
unfoldable pub jump_said : List ℕ → List ℕ → Said
jump_said a target =
    given (register_of a) (λ rd.
    if is_label target then Says (items.Jump rd)
    else given (number_written target) (λ z.
    in_range (offset_of 1048576 z) (λ offset. items.Instruction (statements.Jump rd offset))))

-- rd, imm of 20 bits
unfoldable pub upper_said : UpperName → List ℕ → List ℕ → Said
upper_said name a b =
    given (register_of a) (λ rd. given (number_written b) (λ z.
    in_range (below (2 ^ 20) z) (λ imm. items.Instruction (statements.Upper name rd imm))))

-- what an instruction with these operands says
unfoldable pub instruction_said : Mnemonic → List ℕ → Said
instruction_said (forms.Registers name) text = with_three (registers_said name) (operands_in text)
instruction_said (forms.Immediate name) text = with_three (immediate_said name) (operands_in text)
instruction_said (forms.Shift name) text = with_three (shift_said name) (operands_in text)
instruction_said (forms.Indirect name) text = with_two (indirect_said name) (operands_in text)
instruction_said (forms.Store name) text = with_two (store_said name) (operands_in text)
instruction_said (forms.Branch name) text = with_three (branch_said name) (operands_in text)
instruction_said forms.Jump text = with_two jump_said (operands_in text)
instruction_said (forms.Upper name) text = with_two (upper_said name) (operands_in text)
instruction_said (forms.Plain name) text = alone_said (items.Instruction (statements.Plain name)) text
