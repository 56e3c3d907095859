use Rattle.std.proofs.Common.{sym, subst}
use Rattle.seq_layout.specs.Shapes.{Shape}
use Rattle.seq_layout.specs.Places.{IsPlace}
use Rattle.seq_layout.proofs.Sizes.{process_has_context}
use Rattle.seq_machine.proofs.hardware.Hardware.context_block.Goals as goal

pub first_block-requires-clause-place : goal.first_block-requires-clause-place
first_block-requires-clause-place c =
    let h = c.args.self.now in
    subst (λ e. IsPlace h.layout.blocks e c.args.n) (sym c.process-extent.ensures)
    (subst (λ (s : Shape). IsPlace s.blocks c.args.pid.0 c.args.n) (sym c.requires.hardware.layout) (process_has_context h.desc c.args.pid.0 c.args.n c.requires.process c.requires.block))
