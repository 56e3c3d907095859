use Rattle.seq_io.proofs.lines.is_below.Goals as goal

pub read_word-requires-clause-place : goal.read_word-requires-clause-place
read_word-requires-clause-place c = rw (c.word_of-at.ensures.extent, c.word_of-at.ensures.word) (c.requires.wired.counts c.args.line.0 c.args.word c.requires.line c.requires.word)
