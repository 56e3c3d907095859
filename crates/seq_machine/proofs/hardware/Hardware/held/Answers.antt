use Rattle.std.proofs.Common.{◌||◌, ◌∙◌, ap}
use Rattle.seq_words.specs.Masks.{has_bit}
use Rattle.seq_layout.specs.declared.context.Context.{Context}
use Rattle.seq_machine.specs.Settling.{first_blocks}
use Rattle.seq_machine.proofs.Held.{held_none, held_more}
use Rattle.seq_machine.proofs.hardware.Hardware.held.Goals as goal

pub loop-q-init : goal.loop-q-init
loop-q-init c = held_none (first_blocks c.args.self.now)

pub loop-q-preserved : goal.loop-q-preserved
loop-q-preserved c = held_more (first_blocks c.args.self.now) c.loop-q.q c.loop-q.held c.together-held.result c.loop-q.invariant
    (λ t. c.together-held.ensures t ∙ ap (λ (x : Context). has_bit c.loop-q.held t || has_bit x.held t) c.context.ensures.value)
