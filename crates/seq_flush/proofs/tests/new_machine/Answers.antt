use Rattle.seq_flush.proofs.tests.new_machine.Goals as goal

pub returns-clause-places : goal.returns-clause-places
returns-clause-places c = c.in_ok-cache.ensures c.in_ok-layout.layout c.in_ok-layout.ensures.blocks c.in_ok-layout.ensures.words
