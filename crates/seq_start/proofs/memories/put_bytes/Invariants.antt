-- the blocks that stand already
use Rattle.std.proofs.Common.{◌≡◌, ℕ, ◌+◌, ◌<◌}
use Rattle.seq_layout.specs.Copies.{Matches, copies}
use Rattle.seq_kernel.specs.Views.{Blocks}
use Rattle.seq_image.specs.Images.{block_of_bytes}
use Rattle.seq_start.specs.Begun.{up_to, Hold}
use Rattle.seq_start.proofs.memories.put_bytes.Given as goal

abbrev pub invariant-loop-i : goal.invariant-loop-i
invariant-loop-i l = record {
  matches : Matches l.layout l.memories;
  holds : (o : Blocks) → ((i : ℕ) → i < l.count → o l.extent.0 (l.from + i) ≡ block_of_bytes l.bytes i) → Hold l.layout (copies l.layout l.initial.memories) (up_to o l.extent.0 l.from) → Hold l.layout (copies l.layout l.memories) (up_to o l.extent.0 (l.from + l.i));
}
