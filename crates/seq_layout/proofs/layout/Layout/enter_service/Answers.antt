use Rattle.std.proofs.Common.{ap, ◌∙◌}
use Rattle.seq_memory.specs.States.{is_returning}
use Rattle.seq_memory.specs.declared.element.State.TheVariants.{InService}
use Rattle.seq_layout.proofs.CopiesByPlace.{memory_state_is, state_set_is, state_set_keeps}
use Rattle.seq_layout.proofs.layout.Layout.enter_service.Goals as goal

pub enter_service-requires : goal.enter_service-requires
enter_service-requires c = ap is_returning (memory_state_is c.args.self.now c.args.memories.now c.args.me.0 c.requires.matches c.requires.memory _ c.at_mut-element.ensures.value) ∙ c.requires.returning

pub returns-clause-serves : goal.returns-clause-serves
returns-clause-serves c = rw c.enter_service.ensures (state_set_is c.args.self.now c.args.memories.now c.args.me.0 c.requires.matches c.requires.memory _ c.at_mut-element.ensures.value InService)

pub returns-clause-matches : goal.returns-clause-matches
returns-clause-matches c = rw c.enter_service.ensures (state_set_keeps c.args.self.now c.args.memories.now c.args.me.0 c.requires.matches c.requires.memory _ c.at_mut-element.ensures.value InService)
