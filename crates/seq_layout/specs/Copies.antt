-- What the memories hold, as plain data: their states, and the two copies of each block and each word of each extent.
-- It says nothing of where a copy stands in its memory.
use Rattle.std.specs.Prelude.{◌≡◌, ◌≢◌, ℕ, ◌<◌, ◌≤◌, Bool, true, false, if◌then◌else◌, ◌==◌, ◌&&◌, not, [], length, slice_index, slice_index_or}
use Rattle.seq_words.specs.Blocks.{zero_block}
use Rattle.seq_words.specs.declared.block.Block.{Block}
use Rattle.seq_memory.specs.States.{is_in_service, empty_element}
use Rattle.seq_memory.specs.declared.element.State.{State}
use Rattle.seq_memory.specs.declared.element.State.TheVariants.{InService, Down}
use Rattle.seq_memory.specs.declared.element.MemoryElement.{MemoryElement}
use Rattle.seq_memory.specs.declared.element.Memories.{Memories}
use Rattle.seq_layout.specs.Places.{memory_of, start_of, place_of, is_place, IsSamePart}
use Rattle.seq_layout.specs.Shapes.{Shape}

unfoldable pub no_element : MemoryElement
no_element = record { state = Down; blocks = []; words = [] }

abbrev pub element_of : Memories → ℕ → MemoryElement
element_of m i = slice_index_or m.elements i no_element

-- The states by memory; the blocks and words by extent, number, and copy (true: the shadow).
pub record Copies : Type 0 where
  pub state : ℕ → State
  pub block : ℕ → ℕ → Bool → Block
  pub word : ℕ → ℕ → Bool → ℕ

-- what memories of this shape hold; zeros stand where an extent has no such block or word
unfoldable pub copies : Shape → Memories → Copies
copies s m = record {
  state = λ i. (element_of m i).state;
  block = λ e n c. if is_place s.blocks e n then slice_index_or (element_of m (memory_of s.memories e c)).blocks (place_of s.memories s.blocks e n c) zero_block else zero_block;
  word = λ e n c. if is_place s.words e n then slice_index (element_of m (memory_of s.memories e c)).words (place_of s.memories s.words e n c) else 0;
}

-- the memories have the blocks and words of their extents
pub record Matches (s : Shape) (m : Memories) : Type 0 where
  pub memories : length m.elements ≡ s.memories
  pub blocks : (i : ℕ) → i < s.memories → length (element_of m i).blocks ≡ start_of s.memories s.blocks i (length s.blocks)
  pub words : (i : ℕ) → i < s.memories → length (element_of m i).words ≡ start_of s.memories s.words i (length s.words)

-- a memory in service that keeps all that memory i keeps, all of it zero
abbrev pub fresh_element : Shape → ℕ → MemoryElement
fresh_element s i = empty_element InService (start_of s.memories s.blocks i (length s.blocks)) (start_of s.memories s.words i (length s.words))

-- every memory is in service, and all that they hold is zero
pub record AreFresh (s : Shape) (p : Copies) : Type 0 where
  pub state : (k : ℕ) → k < s.memories → p.state k ≡ InService
  pub block : (e n : ℕ) (c : Bool) → p.block e n c ≡ zero_block
  pub word : (e n : ℕ) (c : Bool) → p.word e n c ≡ 0

-- the state of the memory of a copy
abbrev pub state_of : Shape → Copies → ℕ → Bool → State
state_of s p e c = p.state (memory_of s.memories e c)

-- a copy is in service
abbrev pub serves : Shape → Copies → ℕ → Bool → Bool
serves s p e c = is_in_service (state_of s p e c)

abbrev pub same_copy : Bool → Bool → Bool
same_copy true c = c
same_copy false c = not c

-- one copy of a block, or of a word, is changed
unfoldable pub with_block : Copies → ℕ → ℕ → Bool → Block → Copies
with_block p e n c b = record p { block = λ e' n' c'. if (e' == e && n' == n) && same_copy c' c then b else p.block e' n' c' }

unfoldable pub with_word : Copies → ℕ → ℕ → Bool → ℕ → Copies
with_word p e n c w = record p { word = λ e' n' c'. if (e' == e && n' == n) && same_copy c' c then w else p.word e' n' c' }

-- the same where the copy is in service; else nothing changes
unfoldable pub block_written : Shape → Copies → ℕ → ℕ → Bool → Block → Copies
block_written s p e n c b = if serves s p e c then with_block p e n c b else p

unfoldable pub word_written : Shape → Copies → ℕ → ℕ → Bool → ℕ → Copies
word_written s p e n c w = if serves s p e c then with_word p e n c w else p

-- The first copy of an extent is the primary where that is in service, else the shadow.
abbrev pub first_copy : Shape → Copies → ℕ → Bool
first_copy s p e = not (serves s p e false)

abbrev pub first_block : Shape → Copies → ℕ → ℕ → Block
first_block s p e n = p.block e n (first_copy s p e)

abbrev pub first_word : Shape → Copies → ℕ → ℕ → ℕ
first_word s p e n = p.word e n (first_copy s p e)

-- an extent has a copy in service
abbrev pub IsServed : Shape → Copies → ℕ → Type 0
IsServed s p e = serves s p e (first_copy s p e) ≡ true

-- a memory fails: it is down, and all that it held is zero
unfoldable pub failed : Shape → Copies → ℕ → Copies
failed s p k = record {
  state = λ i. if i == k then Down else p.state i;
  block = λ e n c. if memory_of s.memories e c == k then zero_block else p.block e n c;
  word = λ e n c. if memory_of s.memories e c == k then 0 else p.word e n c;
}

-- the state of one memory is changed
unfoldable pub with_state : Copies → ℕ → State → Copies
with_state p k state = record p { state = λ i. if i == k then state else p.state i }

-- After one copy of a block, or of a word, is changed, all else is as before.
pub record ChangesBlock (p q : Copies) (e n : ℕ) (c : Bool) (b : Block) : Type 0 where
  pub here : q.block e n c ≡ b
  pub elsewhere : (e' n' : ℕ) (c' : Bool) → ¬ (IsSamePart e n c e' n' c') → q.block e' n' c' ≡ p.block e' n' c'
  pub words : q.word ≡ p.word
  pub states : q.state ≡ p.state

pub record ChangesWord (p q : Copies) (e n : ℕ) (c : Bool) (w : ℕ) : Type 0 where
  pub here : q.word e n c ≡ w
  pub elsewhere : (e' n' : ℕ) (c' : Bool) → ¬ (IsSamePart e n c e' n' c') → q.word e' n' c' ≡ p.word e' n' c'
  pub blocks : q.block ≡ p.block
  pub states : q.state ≡ p.state

-- After a memory fails, the others and their copies are as before.
pub record LosesMemory (s : Shape) (p q : Copies) (k : ℕ) : Type 0 where
  pub down : q.state k ≡ Down
  pub states : (i : ℕ) → i ≢ k → q.state i ≡ p.state i
  pub blocks : (e n : ℕ) (c : Bool) → memory_of s.memories e c ≢ k → q.block e n c ≡ p.block e n c
  pub words : (e n : ℕ) (c : Bool) → memory_of s.memories e c ≢ k → q.word e n c ≡ p.word e n c

-- After the state of a memory is changed, all else is as before.
pub record ChangesState (p q : Copies) (k : ℕ) (state : State) : Type 0 where
  pub here : q.state k ≡ state
  pub elsewhere : (i : ℕ) → i ≢ k → q.state i ≡ p.state i
  pub blocks : q.block ≡ p.block
  pub words : q.word ≡ p.word

-- at most one of the memories is not in service
abbrev pub AtMostOneOut : Shape → Copies → Type 0
AtMostOneOut s p =
    (i j : ℕ) → i < s.memories → j < s.memories → is_in_service (p.state i) ≡ false → is_in_service (p.state j) ≡ false → i ≡ j

-- The laws of copies.
abbrev pub BlockChangesAlone : Type 0
BlockChangesAlone = (p : Copies) (e n : ℕ) (c : Bool) (b : Block) → ChangesBlock p (with_block p e n c b) e n c b

abbrev pub WordChangesAlone : Type 0
WordChangesAlone = (p : Copies) (e n : ℕ) (c : Bool) (w : ℕ) → ChangesWord p (with_word p e n c w) e n c w

abbrev pub MemoryFailsAlone : Type 0
MemoryFailsAlone = (s : Shape) (p : Copies) (k : ℕ) → LosesMemory s p (failed s p k) k

abbrev pub StateChangesAlone : Type 0
StateChangesAlone = (p : Copies) (k : ℕ) (state : State) → ChangesState p (with_state p k state) k state

abbrev pub AllAreServed : Type 0
AllAreServed = (s : Shape) (p : Copies) → 2 ≤ s.memories → AtMostOneOut s p → (e : ℕ) → IsServed s p e
