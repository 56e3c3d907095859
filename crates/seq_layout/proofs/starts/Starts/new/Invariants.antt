use Rattle.std.proofs.Common.{◌≡◌, ℕ, ◌<◌, [], length, get_or}
use Rattle.seq_layout.specs.Tables.{IsRow}
use Rattle.seq_layout.proofs.starts.Starts.new.Given as goal

abbrev pub invariant-loop-memory : goal.invariant-loop-memory
invariant-loop-memory l = record {
  rows : length l.starts ≡ l.memory;
  row_is : (m : ℕ) → m < l.memory → IsRow (record { memories = l.memories; sizes = l.fn.sizes }) m (get_or l.starts m []);
}
