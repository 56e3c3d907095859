use Rattle.std.proofs.Common.{◌∙◌}
use Rattle.seq_memory.specs.declared.element.State.TheVariants.{Stale}
use Rattle.seq_layout.proofs.CopiesByPlace.{memory_state_is, state_set_is, state_set_keeps}
use Rattle.seq_layout.proofs.layout.Layout.repair.Goals as goal

pub repair-requires : goal.repair-requires
repair-requires c = memory_state_is c.args.self.now c.args.memories.now c.args.me.0 c.requires.matches c.requires.memory _ c.at_mut-element.ensures.value ∙ c.requires.down

pub returns-clause-repaired : goal.returns-clause-repaired
returns-clause-repaired c = rw c.repair.ensures (state_set_is c.args.self.now c.args.memories.now c.args.me.0 c.requires.matches c.requires.memory _ c.at_mut-element.ensures.value Stale)

pub returns-clause-matches : goal.returns-clause-matches
returns-clause-matches c = rw c.repair.ensures (state_set_keeps c.args.self.now c.args.memories.now c.args.me.0 c.requires.matches c.requires.memory _ c.at_mut-element.ensures.value Stale)
