-- Each process below the next one has a status word in service, inside the format.
use Rattle.std.proofs.Common.{ℕ, ◌<◌}
use Rattle.seq_layout.specs.Places.{IsPlace}
use Rattle.seq_layout.specs.Copies.{copies, first_word, IsServed}
use Rattle.seq_status.specs.Words.{IsStatusWord}
use Rattle.seq_io_tests.proofs.bench.are_ruled.Given as goal

abbrev pub invariant-loop-process : goal.invariant-loop-process
invariant-loop-process l = record {
  place : (q : ℕ) → q < l.process → IsPlace l.layout.words q 0;
  served : (q : ℕ) → q < l.process → IsServed l.layout (copies l.layout l.memories) q;
  format : (q : ℕ) → q < l.process → IsStatusWord (first_word l.layout (copies l.layout l.memories) q 0);
}
