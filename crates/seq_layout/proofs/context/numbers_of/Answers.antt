-- the registers and the numbers after them are copied one behind the other
use Rattle.std.proofs.Common.{◌∙◌, length, ap, refl}
use Rattle.seq_layout.proofs.ContextNumbers.{after_registers}
use Rattle.seq_layout.proofs.context.numbers_of.Goals as goal

pub returns-clause-numbers : goal.returns-clause-numbers
returns-clause-numbers c =
    after_registers c.copy_from_slice.new.self c.copy_from_slice-2.new.self c.copy_from_slice.ensures.len (ap length c.copy_from_slice-2.ensures.after)
    ∙ rw (c.copy_from_slice.ensures.after, c.copy_from_slice-2.ensures.after, c.low_half.ensures, c.high_half.ensures) refl
