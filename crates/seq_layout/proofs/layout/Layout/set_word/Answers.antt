use Rattle.seq_layout.proofs.CopiesByPlace.{word_in, is_up, word_written_is, words_matches}
use Rattle.seq_layout.proofs.layout.Layout.set_word.Goals as goal

pub write_word-requires-clause-place : goal.write_word-requires-clause-place
write_word-requires-clause-place c = word_in c.args.self.now c.args.memories.now c.args.at.extent.0 c.args.shadow _ c.word_place-place.ensures.memory _ c.at_mut-element.ensures.value c.args.at.word _ c.requires.matches c.word_place-place.ensures.within c.requires.place c.word_place-place.ensures.place

pub write_word-requires-clause-up : goal.write_word-requires-clause-up
write_word-requires-clause-up c = is_up c.args.self.now c.args.memories.now c.args.at.extent.0 c.args.shadow _ c.word_place-place.ensures.memory _ c.at_mut-element.ensures.value c.requires.up

pub returns-clause-set : goal.returns-clause-set
returns-clause-set c =
    rw c.write_word.ensures (word_written_is c.args.self.now c.args.memories.now c.args.at.extent.0 c.args.shadow _ c.word_place-place.ensures.memory _ c.at_mut-element.ensures.value c.args.at.word _ c.requires.matches c.word_place-place.ensures.within c.requires.place c.word_place-place.ensures.place c.word_place-place.ensures.enough c.args.value)

pub returns-clause-matches : goal.returns-clause-matches
returns-clause-matches c = rw c.write_word.ensures (words_matches c.args.self.now c.args.memories.now c.args.at.extent.0 c.args.shadow _ c.word_place-place.ensures.memory _ c.at_mut-element.ensures.value c.args.at.word _ c.requires.matches c.word_place-place.ensures.within c.args.value)
