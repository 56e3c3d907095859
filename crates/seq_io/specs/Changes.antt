-- What one duty may change of what the memories hold.
use Rattle.std.specs.Prelude.{ℕ, Bool}
use Rattle.seq_words.specs.declared.block.Block.{Block}
use Rattle.seq_layout.specs.Copies.{Copies, with_block, with_word}

-- Nothing, or one copy of one block, or of one word.
pub data Change : Type 0 where
  Unchanged : Change
  To_block : (extent place : ℕ) → (shadow : Bool) → (block : Block) → Change
  To_word : (extent place : ℕ) → (shadow : Bool) → (word : ℕ) → Change

-- what the memories hold after it
abbrev pub copies_after : Change → Copies → Copies
copies_after Unchanged p = p
copies_after (To_block e n c b) p = with_block p e n c b
copies_after (To_word e n c w) p = with_word p e n c w
