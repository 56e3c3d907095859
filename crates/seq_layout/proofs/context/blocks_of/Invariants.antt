-- the blocks that stand already
use Rattle.std.proofs.Common.{◌≡◌, ℕ, ◌*◌, ◌<◌, length, get_or}
use Rattle.seq_words.specs.Blocks.{zero_block}
use Rattle.seq_layout.specs.Contexts.{block_from}
use Rattle.seq_layout.proofs.context.blocks_of.Given as goal

abbrev pub invariant-loop-k : goal.invariant-loop-k
invariant-loop-k l = (length l.block-items ≡ 8) × ((k : ℕ) → k < l.k → get_or l.block-items k zero_block ≡ block_from l.numbers (8 * k))
