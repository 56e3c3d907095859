-- What a processor reads: the changes lie over the memories.
use Rattle.std.specs.Prelude.{ℕ, List, unwrap_or}
use Rattle.seq_words.specs.declared.block.Block.{Block}
use Rattle.seq_layout.specs.Shapes.{Shape}
use Rattle.seq_layout.specs.Copies.{Copies, first_block}
use Rattle.seq_cache.specs.declared.change.Change.{Change}
use Rattle.seq_cache.specs.Changes.{changed}

-- block n of extent e: what it was changed to, else what its first copy holds
unfoldable pub overlay : Shape → Copies → List Change → ℕ → ℕ → Block
overlay s p cs e n = unwrap_or (changed cs e n) (first_block s p e n)
