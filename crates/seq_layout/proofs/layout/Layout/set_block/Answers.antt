use Rattle.seq_layout.proofs.CopiesByPlace.{block_in, is_up, block_written_is, blocks_matches}
use Rattle.seq_layout.proofs.layout.Layout.set_block.Goals as goal

pub write_block-requires-clause-place : goal.write_block-requires-clause-place
write_block-requires-clause-place c = block_in c.args.self.now c.args.memories.now c.args.extent.0 c.args.shadow _ c.place-at.ensures.memory _ c.at_mut-element.ensures.value c.args.n _ c.requires.matches c.place-at.ensures.within c.requires.place c.place-at.ensures.place

pub write_block-requires-clause-up : goal.write_block-requires-clause-up
write_block-requires-clause-up c = is_up c.args.self.now c.args.memories.now c.args.extent.0 c.args.shadow _ c.place-at.ensures.memory _ c.at_mut-element.ensures.value c.requires.up

pub returns-clause-set : goal.returns-clause-set
returns-clause-set c =
    rw c.write_block.ensures (block_written_is c.args.self.now c.args.memories.now c.args.extent.0 c.args.shadow _ c.place-at.ensures.memory _ c.at_mut-element.ensures.value c.args.n _ c.requires.matches c.place-at.ensures.within c.requires.place c.place-at.ensures.place c.place-at.ensures.enough c.args.block.now)

pub returns-clause-matches : goal.returns-clause-matches
returns-clause-matches c = rw c.write_block.ensures (blocks_matches c.args.self.now c.args.memories.now c.args.extent.0 c.args.shadow _ c.place-at.ensures.memory _ c.at_mut-element.ensures.value c.args.n _ c.requires.matches c.place-at.ensures.within c.args.block.now)
