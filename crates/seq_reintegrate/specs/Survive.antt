-- What is known of the units of a memory that is copied survives what happens elsewhere.
use Rattle.std.specs.Prelude.{◌≢◌, ℕ, Bool}
use Rattle.seq_words.specs.declared.block.Block as block
use Rattle.seq_memory.specs.declared.element.State.{State}
use Rattle.seq_layout.specs.Shapes.{Shape}
use Rattle.seq_layout.specs.Copies.{Copies, with_block, with_word, with_state, failed}
use Rattle.seq_layout.specs.declared.extents.Extent.{Extent}
use Rattle.seq_layout.specs.declared.units.WordAt.{WordAt}
use Rattle.seq_layout.specs.declared.units.Unit.TheVariants.{Block, Word}
use Rattle.seq_turns.specs.Recoveries.{next_of}
use Rattle.seq_reintegrate.specs.Stands.{IsBelow, CopyingKnows}

-- What is known of memory i survives each write to a block or a word that isn't one of its units behind the next one, each change of
-- another memory's state, and its own failure.
pub record CopyingSurvives (s : Shape) (i : ℕ) : Type 0 where
  pub block : (p : Copies) (e : Extent) (n : ℕ) (c : Bool) (b : block.Block) → ¬ (IsBelow s i (next_of (p.state i)) (Block e n)) → CopyingKnows s p i → CopyingKnows s (with_block p e.0 n c b) i
  pub word : (p : Copies) (at : WordAt) (c : Bool) (w : ℕ) → ¬ (IsBelow s i (next_of (p.state i)) (Word at)) → CopyingKnows s p i → CopyingKnows s (with_word p at.extent.0 at.word c w) i
  pub state : (p : Copies) (k : ℕ) (after : State) → k ≢ i → CopyingKnows s p i → CopyingKnows s (with_state p k after) i
  pub failure : (p : Copies) → CopyingKnows s (failed s p i) i
