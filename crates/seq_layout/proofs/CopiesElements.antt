-- One element of the memories is changed, seen as plain data.
use Rattle.std.proofs.Common.{◌≡◌, ◌≢◌, ℕ, ◌<◌, ◌≤◌, Bool, cond, eqb, length, set, arith, refl, ap, inl, inr, length-set, get_or-set_same, get_or-set_other}
use Rattle.std.proofs.lemmas.Bool.{cases_eq, cases_Bool, eqb-true, eqb-false}
use Rattle.std.proofs.lemmas.List.{length-replicate}
use mathlib.Core.Path.{fun_ext}
use Rattle.seq_words.specs.Blocks.{zero_block}
use Rattle.seq_words.specs.declared.block.Block.{Block}
use Rattle.seq_memory.specs.States.{empty_element}
use Rattle.seq_memory.specs.declared.element.State.{State}
use Rattle.seq_memory.specs.declared.element.State.TheVariants.{Down}
use Rattle.seq_memory.specs.declared.element.MemoryElement.{MemoryElement}
use Rattle.seq_memory.specs.declared.element.Memories.{Memories}
use Rattle.seq_layout.specs.Places.{memory_of, place_of, IsPlace}
use Rattle.seq_layout.specs.Shapes.{Shape}
use Rattle.seq_layout.specs.Copies.{no_element, element_of, Copies, copies, Matches, with_block, with_word, with_state, failed}
use Rattle.seq_layout.proofs.Apart.{apart}
use Rattle.seq_layout.proofs.CopiesPlaces.{cell_of, within_cells, cells_after, cells_lost}

pub same_copies : (a a' : ℕ → State) (b b' : ℕ → ℕ → Bool → Block) (w w' : ℕ → ℕ → Bool → ℕ) → a ≡ a' → b ≡ b' → w ≡ w' → ◌≡◌ {A = Copies} (record { state = a; block = b; word = w }) (record { state = a'; block = b'; word = w' })
same_copies a a' b b' w w' p q r = rw (p, q, r) refl

-- the memories with another element in one place
abbrev pub with_element : Memories → ℕ → MemoryElement → Memories
with_element m k element = record m { elements = set m.elements k element }

module _ (s : Shape) (m : Memories) (k : ℕ) (element : MemoryElement) (matches : Matches s m) (within : k < s.memories) where
  pub element_here : element_of (with_element m k element) k ≡ element
  element_here =
      let inside : k < length m.elements = omega (arith, matches.memories) in
      get_or-set_same m.elements k element no_element inside

  pub element_elsewhere : (i : ℕ) → i ≢ k → element_of (with_element m k element) i ≡ element_of m i
  element_elsewhere i other = get_or-set_other m.elements k i element no_element other

  -- what is the same in the element is the same in all
  pub same_in_all : {A : Type 0} (f : MemoryElement → A) → f element ≡ f (element_of m k) → ◌≡◌ {A = ℕ → A} (λ i. f (element_of (with_element m k element) i)) (λ i. f (element_of m i))
  same_in_all f same = fun_ext (λ i. elim (cases_eq i k) [
    | inl here ↦ rw here (rw element_here same)
    | inr other ↦ rw (element_elsewhere i other) refl
  ])

  -- the memories keep their sizes
  pub matches_after : length element.blocks ≡ length (element_of m k).blocks → length element.words ≡ length (element_of m k).words → Matches s (with_element m k element)
  matches_after blocks words =
      let same_blocks = same_in_all (λ (x : MemoryElement). length x.blocks) blocks in
      let same_words = same_in_all (λ (x : MemoryElement). length x.words) words in
      record {
        memories = simp length-set matches.memories;
        blocks = λ i h. rw (ap (λ (f : ℕ → ℕ). f i) same_blocks) (matches.blocks i h);
        words = λ i h. rw (ap (λ (f : ℕ → ℕ). f i) same_words) (matches.words i h);
      }

module _ (s : Shape) (m : Memories) (e n : ℕ) (c : Bool) (matches : Matches s m) (within : memory_of s.memories e c < s.memories) where
  pub block_fits : IsPlace s.blocks e n → place_of s.memories s.blocks e n c < length (element_of m (memory_of s.memories e c)).blocks
  block_fits p = within_cells s.memories s.blocks _ e n c (matches.blocks _ within) p

  pub word_fits : IsPlace s.words e n → place_of s.memories s.words e n c < length (element_of m (memory_of s.memories e c)).words
  word_fits p = within_cells s.memories s.words _ e n c (matches.words _ within) p

  -- the element with the block, or the word, set
  abbrev pub block_element : Block → MemoryElement
  block_element b =
      let element = element_of m (memory_of s.memories e c) in
      record element { blocks = set element.blocks (place_of s.memories s.blocks e n c) b }

  abbrev pub word_element : ℕ → MemoryElement
  word_element w =
      let element = element_of m (memory_of s.memories e c) in
      record element { words = set element.words (place_of s.memories s.words e n c) w }

  pub block_set : 2 ≤ s.memories → (b : Block) → IsPlace s.blocks e n → copies s (with_element m (memory_of s.memories e c) (block_element b)) ≡ with_block (copies s m) e n c b
  unfolding copies with_block
  block_set two b p =
      let after = with_element m (memory_of s.memories e c) (block_element b) in
      let same_words = same_in_all s m _ (block_element b) matches within (λ (x : MemoryElement). x.words) refl in
      same_copies _ _ _ _ _ _
      (same_in_all s m _ (block_element b) matches within (λ (x : MemoryElement). x.state) refl)
      (cells_after s.memories s.blocks zero_block (λ i. (element_of m i).blocks) (λ i. (element_of after i).blocks) e n c b (apart s.memories s.blocks two) p (block_fits p) (ap (λ (x : MemoryElement). x.blocks) (element_here s m _ (block_element b) matches within)) (λ i other. ap (λ (x : MemoryElement). x.blocks) (element_elsewhere s m _ (block_element b) matches within i other)))
      (ap (cell_of s.memories s.words 0) same_words)

  pub word_set : 2 ≤ s.memories → (w : ℕ) → IsPlace s.words e n → copies s (with_element m (memory_of s.memories e c) (word_element w)) ≡ with_word (copies s m) e n c w
  unfolding copies with_word
  word_set two w p =
      let after = with_element m (memory_of s.memories e c) (word_element w) in
      let same_blocks = same_in_all s m _ (word_element w) matches within (λ (x : MemoryElement). x.blocks) refl in
      same_copies _ _ _ _ _ _
      (same_in_all s m _ (word_element w) matches within (λ (x : MemoryElement). x.state) refl)
      (ap (cell_of s.memories s.blocks zero_block) same_blocks)
      (cells_after s.memories s.words 0 (λ i. (element_of m i).words) (λ i. (element_of after i).words) e n c w (apart s.memories s.words two) p (word_fits p) (ap (λ (x : MemoryElement). x.words) (element_here s m _ (word_element w) matches within)) (λ i other. ap (λ (x : MemoryElement). x.words) (element_elsewhere s m _ (word_element w) matches within i other)))

-- the state of a memory is changed
module _ (s : Shape) (m : Memories) (k : ℕ) (matches : Matches s m) (within : k < s.memories) (state : State) where
  abbrev pub state_element : MemoryElement
  state_element = record (element_of m k) { state = state }

  other_state : (i : ℕ) → (element_of (with_element m k state_element) i).state ≡ cond (eqb i k) state (element_of m i).state
  other_state i = elim (cases_Bool (eqb i k)) [
    | inl here ↦ rw here (rw (eqb-true i k here) (ap (λ (x : MemoryElement). x.state) (element_here s m k state_element matches within)))
    | inr other ↦ rw other (ap (λ (x : MemoryElement). x.state) (element_elsewhere s m k state_element matches within i (eqb-false i k other)))
  ]

  pub state_set : copies s (with_element m k state_element) ≡ with_state (copies s m) k state
  unfolding copies with_state
  state_set =
      same_copies _ _ _ _ _ _
      (fun_ext other_state)
      (ap (cell_of s.memories s.blocks zero_block) (same_in_all s m k state_element matches within (λ (x : MemoryElement). x.blocks) refl))
      (ap (cell_of s.memories s.words 0) (same_in_all s m k state_element matches within (λ (x : MemoryElement). x.words) refl))

  pub state_matches : Matches s (with_element m k state_element)
  state_matches = matches_after s m k state_element matches within refl refl

-- a memory fails
module _ (s : Shape) (m : Memories) (k : ℕ) (matches : Matches s m) (within : k < s.memories) where
  abbrev pub failed_element : MemoryElement
  failed_element = empty_element Down (length (element_of m k).blocks) (length (element_of m k).words)

  state_after : (i : ℕ) → (element_of (with_element m k failed_element) i).state ≡ cond (eqb i k) Down (element_of m i).state
  state_after i = elim (cases_Bool (eqb i k)) [
    | inl here ↦ rw here (rw (eqb-true i k here) (ap (λ (x : MemoryElement). x.state) (element_here s m k failed_element matches within)))
    | inr other ↦ rw other (ap (λ (x : MemoryElement). x.state) (element_elsewhere s m k failed_element matches within i (eqb-false i k other)))
  ]

  pub all_lost : copies s (with_element m k failed_element) ≡ failed s (copies s m) k
  unfolding copies failed
  all_lost =
      let after = with_element m k failed_element in
      same_copies _ _ _ _ _ _
      (fun_ext state_after)
      (cells_lost s.memories s.blocks zero_block (λ i. (element_of m i).blocks) (λ i. (element_of after i).blocks) k _ (ap (λ (x : MemoryElement). x.blocks) (element_here s m k failed_element matches within)) (λ i other. ap (λ (x : MemoryElement). x.blocks) (element_elsewhere s m k failed_element matches within i other)))
      (cells_lost s.memories s.words 0 (λ i. (element_of m i).words) (λ i. (element_of after i).words) k _ (ap (λ (x : MemoryElement). x.words) (element_here s m k failed_element matches within)) (λ i other. ap (λ (x : MemoryElement). x.words) (element_elsewhere s m k failed_element matches within i other)))

  pub failed_matches : Matches s (with_element m k failed_element)
  failed_matches = matches_after s m k failed_element matches within (length-replicate _ _) (length-replicate _ _)
