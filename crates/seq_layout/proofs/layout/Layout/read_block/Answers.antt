use Rattle.seq_layout.proofs.CopiesByPlace.{block_in, is_up, block_is}
use Rattle.seq_layout.proofs.layout.Layout.read_block.Goals as goal

pub read_block-requires-clause-place : goal.read_block-requires-clause-place
read_block-requires-clause-place c = block_in c.args.self.now c.args.memories.now c.args.extent.0 c.args.shadow _ c.place-at.ensures.memory _ c.at.ensures c.args.n _ c.requires.matches c.place-at.ensures.within c.requires.place c.place-at.ensures.place

pub read_block-requires-clause-up : goal.read_block-requires-clause-up
read_block-requires-clause-up c = is_up c.args.self.now c.args.memories.now c.args.extent.0 c.args.shadow _ c.place-at.ensures.memory _ c.at.ensures c.requires.up

pub returns-clause-block : goal.returns-clause-block
returns-clause-block c = block_is c.args.self.now c.args.memories.now c.args.extent.0 c.args.shadow _ c.place-at.ensures.memory _ c.at.ensures c.args.n _ c.requires.matches c.place-at.ensures.within c.requires.place c.place-at.ensures.place _ c.read_block.ensures.block
