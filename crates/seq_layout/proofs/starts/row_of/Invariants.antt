use Rattle.std.proofs.Common.{◌≡◌, ℕ, ◌<◌, length, get_or}
use Rattle.seq_layout.specs.Places.{start_of}
use Rattle.seq_layout.proofs.starts.row_of.Given as goal

abbrev pub invariant-loop-extent : goal.invariant-loop-extent
invariant-loop-extent l = record {
  columns : length l.row ≡ l.extent;
  start : (e : ℕ) → e < l.extent → get_or l.row e 0 ≡ start_of l.memories l.sizes l.memory e;
}
