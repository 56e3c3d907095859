use Rattle.seq_layout.specs.Copies.{Matches}
use Rattle.seq_reintegrate.proofs.tests.copy.Given as goal

abbrev pub invariant-loop-calls : goal.invariant-loop-calls
invariant-loop-calls l = Matches l.layout l.memories
