use Rattle.seq_io.proofs.lines.set_word.Goals as goal

pub set_word-requires-clause-place : goal.set_word-requires-clause-place
set_word-requires-clause-place c = rw (c.word_of-at.ensures.extent, c.word_of-at.ensures.word) (c.requires.wired.counts c.args.line.0 c.args.word c.requires.line c.requires.word)
