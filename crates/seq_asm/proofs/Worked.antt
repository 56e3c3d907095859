-- Small sources, worked out by the definitions alone.
use Rattle.std.proofs.Common.{◌≡◌, Some, None, ◌∷◌, ◌++◌, reverse, refl}
use Rattle.std.specs.Prelude.{codes}
use Rattle.seq_text.specs.Lines.{lines_of}
use Rattle.seq_text.specs.Numbers.{number_of}
use Rattle.seq_mnemonics.specs.Names.{mnemonic_of}
use Rattle.seq_mnemonics.specs.Numbers.{hexadecimal_of, operand_of}
use Rattle.seq_mnemonics.specs.Registers.{register_of}
use Rattle.seq_source.specs.Names.{is_label}
use Rattle.seq_source.specs.Cuts.{said_of, label_in, behind_label, word_in, tail_in}
use Rattle.seq_source.specs.Operands.{operands_in}
use Rattle.seq_source.specs.Numbers.{number_written, immediate_of, offset_of}
use Rattle.seq_source.specs.Directives.{directive_said}
use Rattle.seq_source.specs.Instructions.{immediate_said, branch_said, jump_said, instruction_said}
use Rattle.seq_source.specs.Said.{said, last_operand}
use Rattle.seq_asm.specs.Lines.{said_in, named_in, length_at, end_of, labels_of, entry_in, size_in}
use Rattle.seq_asm.specs.Rules.{line_rule, fault_from, name_fault_from, size_of, first_fault}

-- a label that is missing
far_is_missing : first_fault (codes "beq x1, x2, far") ≡ Some (1, 54)
unfolding lines_of number_of mnemonic_of register_of is_label said_of label_in behind_label word_in tail_in operands_in branch_said instruction_said said last_operand said_in named_in length_at end_of labels_of entry_in size_in line_rule fault_from name_fault_from
far_is_missing = refl

-- an odd offset
three_is_odd : first_fault (codes "jal x0, 3") ≡ Some (1, 52)
unfolding lines_of number_of mnemonic_of register_of is_label said_of label_in behind_label word_in tail_in operands_in hexadecimal_of operand_of number_written offset_of jump_said instruction_said said last_operand said_in named_in length_at end_of labels_of entry_in size_in line_rule fault_from name_fault_from
three_is_odd = refl

-- no fault, and the private size of one instruction
five_is_right : first_fault (codes "addi x1, x0, 5") ≡ None
unfolding lines_of number_of mnemonic_of register_of is_label said_of label_in behind_label word_in tail_in operands_in hexadecimal_of operand_of number_written immediate_of immediate_said instruction_said said last_operand said_in named_in length_at end_of labels_of entry_in size_in line_rule fault_from name_fault_from
five_is_right = refl

size_of_five : size_of (end_of (reverse (lines_of (codes "addi x1, x0, 5")))) (size_in (reverse (lines_of (codes "addi x1, x0, 5")))) ≡ 1056
unfolding lines_of number_of mnemonic_of register_of is_label said_of label_in behind_label word_in tail_in operands_in hexadecimal_of operand_of number_written immediate_of immediate_said instruction_said said said_in length_at end_of size_in
size_of_five = refl

-- a size that is none comes before a label that is missing, though it stands behind it
size_comes_first : first_fault (codes "jal x0, far" ++ (10 ∷ codes ".size 33")) ≡ Some (2, 55)
unfolding lines_of number_of mnemonic_of register_of is_label said_of label_in behind_label word_in tail_in operands_in hexadecimal_of operand_of number_written offset_of jump_said instruction_said directive_said said last_operand said_in named_in length_at end_of labels_of entry_in size_in line_rule fault_from name_fault_from
size_comes_first = refl
