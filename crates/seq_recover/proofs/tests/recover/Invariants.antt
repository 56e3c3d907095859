use Rattle.seq_layout.specs.Copies.{Matches}
use Rattle.seq_recover.proofs.tests.recover.Given as goal

abbrev pub invariant-loop : goal.invariant-loop
invariant-loop l = Matches l.layout l.memories
