use Rattle.std.proofs.lemmas.Result.{on_ok_weaker, on_err_weaker, IfErr-weaker}
use Rattle.seq_layout.proofs.CopiesByPlace.{word_in, word_at_is, word_is, is_up, word_written_is, words_matches, unchanged, swap_matches}
use Rattle.seq_layout.proofs.layout.Layout.swap_word.Goals as goal

pub swap_if-requires-clause-place : goal.swap_if-requires-clause-place
swap_if-requires-clause-place c = word_in c.args.self.now c.args.memories.now c.args.at.extent.0 c.args.shadow _ c.word_place-place.ensures.memory _ c.at_mut-element.ensures.value c.args.at.word _ c.requires.matches c.word_place-place.ensures.within c.requires.place c.word_place-place.ensures.place

pub swap_if-requires-clause-up : goal.swap_if-requires-clause-up
swap_if-requires-clause-up c = is_up c.args.self.now c.args.memories.now c.args.at.extent.0 c.args.shadow _ c.word_place-place.ensures.memory _ c.at_mut-element.ensures.value c.requires.up

pub returns-clause-swaps : goal.returns-clause-swaps
returns-clause-swaps c = rw (← word_at_is c.args.self.now c.args.memories.now c.args.at.extent.0 c.args.shadow _ c.word_place-place.ensures.memory _ c.at_mut-element.ensures.value c.args.at.word _ c.requires.matches c.word_place-place.ensures.within c.requires.place c.word_place-place.ensures.place) c.swap_if.ensures.swaps

pub returns-clause-swapped : goal.returns-clause-swapped
returns-clause-swapped c =
    on_ok_weaker c.swap_if.result (λ same. rw same (word_written_is c.args.self.now c.args.memories.now c.args.at.extent.0 c.args.shadow _ c.word_place-place.ensures.memory _ c.at_mut-element.ensures.value c.args.at.word _ c.requires.matches c.word_place-place.ensures.within c.requires.place c.word_place-place.ensures.place c.word_place-place.ensures.enough c.args.new)) c.swap_if.ensures.swapped

pub returns-clause-seen : goal.returns-clause-seen
returns-clause-seen c =
    IfErr-weaker c.swap_if.result _ _ (λ word got. word_is c.args.self.now c.args.memories.now c.args.at.extent.0 c.args.shadow _ c.word_place-place.ensures.memory _ c.at_mut-element.ensures.value c.args.at.word _ c.requires.matches c.word_place-place.ensures.within c.requires.place c.word_place-place.ensures.place word got) c.swap_if.ensures.seen

pub returns-clause-err : goal.returns-clause-err
returns-clause-err c =
    on_err_weaker c.swap_if.result (λ same. rw same (unchanged c.args.memories.now _ _ c.at_mut-element.ensures.value)) c.swap_if.ensures.err

pub returns-clause-matches : goal.returns-clause-matches
returns-clause-matches c =
    swap_matches c.args.self.now c.args.memories.now _ _ _ _ c.swap_if.result (unchanged c.args.memories.now _ _ c.at_mut-element.ensures.value) c.requires.matches (words_matches c.args.self.now c.args.memories.now c.args.at.extent.0 c.args.shadow _ c.word_place-place.ensures.memory _ c.at_mut-element.ensures.value c.args.at.word _ c.requires.matches c.word_place-place.ensures.within c.args.new) c.swap_if.ensures.swapped c.swap_if.ensures.err
