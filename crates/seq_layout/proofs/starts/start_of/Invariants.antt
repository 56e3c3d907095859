use Rattle.std.proofs.Common.{◌≡◌}
use Rattle.seq_layout.specs.Places.{start_of}
use Rattle.seq_layout.proofs.starts.start_of.Given as goal

abbrev pub invariant-loop-earlier : goal.invariant-loop-earlier
invariant-loop-earlier l = l.total ≡ start_of l.fn.memories l.sizes l.memory l.earlier
