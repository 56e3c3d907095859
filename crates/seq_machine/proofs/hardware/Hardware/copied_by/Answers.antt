use Rattle.std.proofs.Common.{sym, ◌∙◌}
use Rattle.seq_machine.proofs.Returning.{copier_copies, others_copy_none}
use Rattle.seq_machine.proofs.hardware.Hardware.copied_by.Goals as goal

pub returns-then-is_copier : goal.returns-then-is_copier
returns-then-is_copier c = c.copied_memory.ensures ∙ copier_copies c.args.self.now c.requires.hardware c.args.pe.0 c.at.result.now c.at.ensures (sym c.is_copier.ensures ∙ c.if-is_copier.true)

pub returns-else-is_copier : goal.returns-else-is_copier
returns-else-is_copier c = others_copy_none c.args.self.now c.requires.hardware c.args.pe.0 c.at.result.now c.at.ensures (sym c.is_copier.ensures ∙ c.if-is_copier.false)
