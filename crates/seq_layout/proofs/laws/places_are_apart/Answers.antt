use Rattle.seq_layout.proofs.Apart.{apart}
use Rattle.seq_layout.proofs.laws.places_are_apart.Goals as goal

pub returns-clause-blocks : goal.returns-clause-blocks
returns-clause-blocks c = λ s two. apart s.memories s.blocks two

pub returns-clause-words : goal.returns-clause-words
returns-clause-words c = λ s two. apart s.memories s.words two
