use Rattle.seq_layout.proofs.CopiesByPlace.{failed_is, failed_keeps}
use Rattle.seq_layout.proofs.layout.Layout.fail.Goals as goal

pub returns-clause-fails : goal.returns-clause-fails
returns-clause-fails c = rw c.fail.ensures (failed_is c.args.self.now c.args.memories.now c.args.me.0 c.requires.matches c.requires.memory _ c.at_mut-element.ensures.value)

pub returns-clause-matches : goal.returns-clause-matches
returns-clause-matches c = rw c.fail.ensures (failed_keeps c.args.self.now c.args.memories.now c.args.me.0 c.requires.matches c.requires.memory _ c.at_mut-element.ensures.value)
