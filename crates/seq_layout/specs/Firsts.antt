-- What is read of the extents, from the first copies of their blocks and words, under each change of the memories.
use Rattle.std.specs.Prelude.{◌≡◌, ◌≢◌, ℕ, ◌≤◌, Bool, true, false}
use Rattle.seq_words.specs.declared.block.Block.{Block}
use Rattle.seq_memory.specs.States.{is_in_service}
use Rattle.seq_memory.specs.declared.element.State.{State}
use Rattle.seq_layout.specs.Places.{memory_of, keeps}
use Rattle.seq_layout.specs.Shapes.{Shape}
use Rattle.seq_layout.specs.Copies.{Copies, serves, first_copy, first_block, first_word, with_block, with_word, with_state, block_written, word_written, failed}

-- An extent is read as before: it is served where it was, and the first copies of its blocks and words hold what they held.
pub record IsReadAsBefore (s : Shape) (p q : Copies) (e : ℕ) : Type 0 where
  pub served : serves s q e (first_copy s q e) ≡ serves s p e (first_copy s p e)
  pub block : (n : ℕ) → first_block s q e n ≡ first_block s p e n
  pub word : (n : ℕ) → first_word s q e n ≡ first_word s p e n

-- An extent is read from this copy, as the copy was before.
pub record IsReadFrom (s : Shape) (p q : Copies) (e : ℕ) (c : Bool) : Type 0 where
  pub first : first_copy s q e ≡ c
  pub block : (n : ℕ) → first_block s q e n ≡ p.block e n c
  pub word : (n : ℕ) → first_word s q e n ≡ p.word e n c

-- After a copy of a block is changed, the block is read where that copy is the first one, and all else is read as before.
pub record ReadsBlock (s : Shape) (p q : Copies) (e n : ℕ) (c : Bool) (b : Block) : Type 0 where
  pub here : c ≡ first_copy s p e → first_block s q e n ≡ b
  pub other_copy : c ≢ first_copy s p e → IsReadAsBefore s p q e
  pub other_block : (n' : ℕ) → n' ≢ n → first_block s q e n' ≡ first_block s p e n'
  pub words : (n' : ℕ) → first_word s q e n' ≡ first_word s p e n'
  pub other_extent : (e' : ℕ) → e' ≢ e → IsReadAsBefore s p q e'

-- The same of a word.
pub record ReadsWord (s : Shape) (p q : Copies) (e n : ℕ) (c : Bool) (w : ℕ) : Type 0 where
  pub here : c ≡ first_copy s p e → first_word s q e n ≡ w
  pub other_copy : c ≢ first_copy s p e → IsReadAsBefore s p q e
  pub other_word : (n' : ℕ) → n' ≢ n → first_word s q e n' ≡ first_word s p e n'
  pub blocks : (n' : ℕ) → first_block s q e n' ≡ first_block s p e n'
  pub other_extent : (e' : ℕ) → e' ≢ e → IsReadAsBefore s p q e'

-- After the state of memory k is changed, the extents whose primary it keeps are read from there if it is in service, and else
-- from their shadows. All others are read from the copies from which they were, and all where it serves as before.
pub record ReadsState (s : Shape) (p q : Copies) (k : ℕ) (state : State) : Type 0 where
  pub primary_in : (e : ℕ) → memory_of s.memories e false ≡ k → is_in_service state ≡ true → IsReadFrom s p q e false
  pub primary_out : (e : ℕ) → memory_of s.memories e false ≡ k → is_in_service state ≡ false → IsReadFrom s p q e true
  pub other_primary : (e : ℕ) → memory_of s.memories e false ≢ k → IsReadFrom s p q e (first_copy s p e)
  pub elsewhere : (e : ℕ) → keeps s.memories k e ≡ false → IsReadAsBefore s p q e
  pub same_service : is_in_service state ≡ is_in_service (p.state k) → (e : ℕ) → IsReadAsBefore s p q e

-- After memory k fails, the extents whose primary it kept are read from their shadows. All others are read as before, but those
-- whose shadow it kept and whose primary doesn't serve.
pub record ReadsFailure (s : Shape) (p q : Copies) (k : ℕ) : Type 0 where
  pub primary_lost : (e : ℕ) → memory_of s.memories e false ≡ k → IsReadFrom s p q e true
  pub served : (e : ℕ) → memory_of s.memories e false ≡ k → serves s q e true ≡ serves s p e true
  pub primary_serves : (e : ℕ) → memory_of s.memories e false ≢ k → serves s p e false ≡ true → IsReadAsBefore s p q e
  pub elsewhere : (e : ℕ) → keeps s.memories k e ≡ false → IsReadAsBefore s p q e

-- The laws of what is read.
abbrev pub BlockIsReadAlone : Type 0
BlockIsReadAlone = (s : Shape) (p : Copies) (e n : ℕ) (c : Bool) (b : Block) → ReadsBlock s p (with_block p e n c b) e n c b

abbrev pub WordIsReadAlone : Type 0
WordIsReadAlone = (s : Shape) (p : Copies) (e n : ℕ) (c : Bool) (w : ℕ) → ReadsWord s p (with_word p e n c w) e n c w

abbrev pub StateIsReadBy : Type 0
StateIsReadBy = (s : Shape) (p : Copies) (k : ℕ) (state : State) → ReadsState s p (with_state p k state) k state

abbrev pub FailureIsReadBy : Type 0
FailureIsReadBy = (s : Shape) (p : Copies) (k : ℕ) → 2 ≤ s.memories → ReadsFailure s p (failed s p k) k

-- A turn that writes one copy of an extent, if it is in service, leaves what is read of every other extent.
abbrev pub WrittenElsewhere : Type 0
WrittenElsewhere =
    (s : Shape) (p : Copies) (e n : ℕ) (c : Bool) (e' : ℕ) → e' ≢ e →
    ((b : Block) → IsReadAsBefore s p (block_written s p e n c b) e') × ((w : ℕ) → IsReadAsBefore s p (word_written s p e n c w) e')
