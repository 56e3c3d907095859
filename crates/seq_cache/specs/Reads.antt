-- What a processor reads while the memories change below its cache.
use Rattle.std.specs.Prelude.{◌≡◌, ◌≢◌, ℕ, ◌≤◌, Bool, true, false, List, Some, None, unwrap_or}
use Rattle.seq_words.specs.declared.block.Block.{Block}
use Rattle.seq_memory.specs.States.{is_in_service}
use Rattle.seq_memory.specs.declared.element.State.{State}
use Rattle.seq_layout.specs.Places.{memory_of}
use Rattle.seq_layout.specs.Shapes.{Shape}
use Rattle.seq_layout.specs.Copies.{Copies, serves, first_block, with_state, block_written, word_written, failed}
use Rattle.seq_layout.specs.Firsts.{IsReadAsBefore, IsReadFrom}
use Rattle.seq_cache.specs.declared.change.Change.{Change}
use Rattle.seq_cache.specs.Changes.{changed}
use Rattle.seq_cache.specs.Overlay.{overlay}

-- A block is read as it was changed, whatever the memories hold, and else from its first copy.
abbrev pub ChangesAreReadFirst : Type 0
ChangesAreReadFirst =
    (s : Shape) (p : Copies) (cs : List Change) (e n : ℕ) →
    ((b : Block) → changed cs e n ≡ Some b → overlay s p cs e n ≡ b) × (changed cs e n ≡ None → overlay s p cs e n ≡ first_block s p e n)

-- An extent is read through a cache as before where its first copies are, and else as the changes over the copy that is read.
abbrev pub ReadsFollowFirstCopies : Type 0
ReadsFollowFirstCopies =
    (s : Shape) (p q : Copies) (cs : List Change) (e n : ℕ) →
    (IsReadAsBefore s p q e → overlay s q cs e n ≡ overlay s p cs e n) × ((c : Bool) → IsReadFrom s p q e c → overlay s q cs e n ≡ unwrap_or (changed cs e n) (p.block e n c))

-- What is read through a cache, under each change of the memories.
pub record ReadsStay (s : Shape) (p : Copies) (cs : List Change) : Type 0 where
  -- a copy of a block of another extent is written, or of any word
  pub block : (e n : ℕ) (c : Bool) (b : Block) (e' n' : ℕ) → e' ≢ e → overlay s (block_written s p e n c b) cs e' n' ≡ overlay s p cs e' n'
  pub word : (e n : ℕ) (c : Bool) (w e' n' : ℕ) → overlay s (word_written s p e n c w) cs e' n' ≡ overlay s p cs e' n'
  -- the state of a memory is changed that serves as before
  pub state : (k : ℕ) (state : State) (e n : ℕ) → is_in_service state ≡ is_in_service (p.state k) → overlay s (with_state p k state) cs e n ≡ overlay s p cs e n
  -- another memory fails than that of a primary in service
  pub primary : (k e n : ℕ) → 2 ≤ s.memories → memory_of s.memories e false ≢ k → serves s p e false ≡ true → overlay s (failed s p k) cs e n ≡ overlay s p cs e n
  -- the memory of the primary fails
  pub shadow : (k e n : ℕ) → 2 ≤ s.memories → memory_of s.memories e false ≡ k → overlay s (failed s p k) cs e n ≡ unwrap_or (changed cs e n) (p.block e n true)

abbrev pub ReadsStayAtEachChange : Type 0
ReadsStayAtEachChange = (s : Shape) (p : Copies) (cs : List Change) → ReadsStay s p cs
