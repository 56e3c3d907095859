use Rattle.seq_layout.proofs.CopiesByPlace.{block_in, block_is}
use Rattle.seq_recover.proofs.copying.held_block.Goals as goal

pub get-requires : goal.get-requires
get-requires c = block_in c.args.layout.now c.args.memories.now c.args.extent.0 c.args.shadow _ c.place-at.ensures.memory _ c.at.ensures c.args.n _ c.requires.matches c.place-at.ensures.within c.requires.place c.place-at.ensures.place

pub returns : goal.returns
returns c = block_is c.args.layout.now c.args.memories.now c.args.extent.0 c.args.shadow _ c.place-at.ensures.memory _ c.at.ensures c.args.n _ c.requires.matches c.place-at.ensures.within c.requires.place c.place-at.ensures.place _ c.get.ensures
