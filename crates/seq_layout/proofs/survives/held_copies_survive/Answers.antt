use Rattle.seq_layout.proofs.Held.{held_words_survive, held_blocks_survive}
use Rattle.seq_layout.proofs.survives.held_copies_survive.Goals as goal

pub returns : goal.returns
returns c = record { words = held_words_survive; blocks = held_blocks_survive }
