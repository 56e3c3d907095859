use Rattle.seq_layout.proofs.CopiesByPlace.{word_in, is_up, word_is}
use Rattle.seq_layout.proofs.layout.Layout.read_word.Goals as goal

pub read_word-requires-clause-place : goal.read_word-requires-clause-place
read_word-requires-clause-place c = word_in c.args.self.now c.args.memories.now c.args.at.extent.0 c.args.shadow _ c.word_place-place.ensures.memory _ c.at.ensures c.args.at.word _ c.requires.matches c.word_place-place.ensures.within c.requires.place c.word_place-place.ensures.place

pub read_word-requires-clause-up : goal.read_word-requires-clause-up
read_word-requires-clause-up c = is_up c.args.self.now c.args.memories.now c.args.at.extent.0 c.args.shadow _ c.word_place-place.ensures.memory _ c.at.ensures c.requires.up

pub returns : goal.returns
returns c = word_is c.args.self.now c.args.memories.now c.args.at.extent.0 c.args.shadow _ c.word_place-place.ensures.memory _ c.at.ensures c.args.at.word _ c.requires.matches c.word_place-place.ensures.within c.requires.place c.word_place-place.ensures.place _ c.read_word.ensures
