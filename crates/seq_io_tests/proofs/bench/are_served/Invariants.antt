-- Each extent below the number of the next memory is served.
use Rattle.std.proofs.Common.{ℕ, ◌<◌}
use Rattle.seq_layout.specs.Copies.{copies, IsServed}
use Rattle.seq_io_tests.proofs.bench.are_served.Given as goal

abbrev pub invariant-loop-memory : goal.invariant-loop-memory
invariant-loop-memory l = (e : ℕ) → e < l.memory → IsServed l.layout (copies l.layout l.memories) e
