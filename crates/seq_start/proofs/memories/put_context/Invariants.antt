-- the blocks of the context that stand already
use Rattle.std.proofs.Common.{◌≡◌, ℕ, ◌<◌, get_or}
use Rattle.seq_words.specs.Blocks.{zero_block}
use Rattle.seq_layout.specs.Copies.{Matches, copies}
use Rattle.seq_layout.specs.Contexts.{context_blocks}
use Rattle.seq_kernel.specs.Views.{Blocks}
use Rattle.seq_image.specs.Begun.{start_context}
use Rattle.seq_start.specs.Begun.{up_to, Hold}
use Rattle.seq_start.proofs.memories.put_context.Given as goal

abbrev pub invariant-loop-k : goal.invariant-loop-k
invariant-loop-k l = record {
  context : l.blocks ≡ context_blocks (start_context l.process);
  matches : Matches l.layout l.memories;
  holds : (o : Blocks) → ((k : ℕ) → k < 8 → o l.extent.0 k ≡ get_or (context_blocks (start_context l.process)) k zero_block) → Hold l.layout (copies l.layout l.initial.memories) (up_to o l.extent.0 0) → Hold l.layout (copies l.layout l.memories) (up_to o l.extent.0 l.k);
}
