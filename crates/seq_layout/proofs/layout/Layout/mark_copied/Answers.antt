use Rattle.std.proofs.Common.{ap, ◌∙◌}
use Rattle.seq_memory.specs.States.{is_returning}
use Rattle.seq_memory.specs.declared.element.State.TheVariants.{Copying}
use Rattle.seq_layout.proofs.CopiesByPlace.{memory_state_is, state_set_is, state_set_keeps}
use Rattle.seq_layout.proofs.layout.Layout.mark_copied.Goals as goal

pub mark_copied-requires : goal.mark_copied-requires
mark_copied-requires c = ap is_returning (memory_state_is c.args.self.now c.args.memories.now c.args.me.0 c.requires.matches c.requires.memory _ c.at_mut-element.ensures.value) ∙ c.requires.returning

pub returns-clause-marked : goal.returns-clause-marked
returns-clause-marked c = rw c.mark_copied.ensures (state_set_is c.args.self.now c.args.memories.now c.args.me.0 c.requires.matches c.requires.memory _ c.at_mut-element.ensures.value (Copying c.args.next))

pub returns-clause-matches : goal.returns-clause-matches
returns-clause-matches c = rw c.mark_copied.ensures (state_set_keeps c.args.self.now c.args.memories.now c.args.me.0 c.requires.matches c.requires.memory _ c.at_mut-element.ensures.value (Copying c.args.next))
