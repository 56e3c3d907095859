-- There is a port for each line below the next one.
use Rattle.std.proofs.Common.{ℕ, ◌<◌}
use Rattle.std.specs.Prelude.{slice_index_or}
use Rattle.seq_io.specs.Lines.{no_port}
use Rattle.seq_io.specs.Bounds.{IsPort}
use Rattle.seq_io_tests.proofs.bench.are_ports.Given as goal

abbrev pub invariant-loop-line : goal.invariant-loop-line
invariant-loop-line l = (k : ℕ) → k < l.line → IsPort l.layout k (slice_index_or l.ports k no_port)
