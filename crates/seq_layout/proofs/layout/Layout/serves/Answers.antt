use Rattle.seq_layout.proofs.CopiesByPlace.{state_is}
use Rattle.seq_layout.proofs.layout.Layout.serves.Goals as goal

pub returns : goal.returns
returns c = rw (← state_is c.args.self.now c.args.memories.now c.args.extent.0 c.args.shadow _ c.memory-me.ensures.memory _ c.at.ensures) c.in_service.ensures
