-- Reads and writes of an element through the place of a copy.
use Rattle.std.proofs.Common.{◌≡◌, ◌≢◌, ℕ, ◌<◌, ◌≤◌, Bool, true, length, set, get_or, slice_get, Some, Result, Ok, Err, OnOk, OnErr, refl, ap, sym, ◌∙◌, length-set}
use Rattle.std.proofs.lemmas.Bool.{false≢true}
use Rattle.std.proofs.lemmas.List.{set-get_or}
use Rattle.std.proofs.lemmas.Option.{get_or_from_slice_get}
use Rattle.seq_words.specs.Blocks.{zero_block}
use Rattle.seq_words.specs.declared.block.Block.{Block}
use Rattle.seq_memory.specs.States.{is_in_service, empty_element}
use Rattle.seq_memory.specs.declared.element.State.{State}
use Rattle.seq_memory.specs.declared.element.State.TheVariants.{Down}
use Rattle.seq_memory.specs.declared.element.MemoryElement.{MemoryElement}
use Rattle.seq_memory.specs.declared.element.Memories.{Memories}
use Rattle.seq_layout.specs.Places.{memory_of, place_of, IsPlace}
use Rattle.seq_layout.specs.Shapes.{Shape}
use Rattle.seq_layout.specs.Copies.{no_element, element_of, copies, state_of, Matches, with_block, with_word, with_state, failed}
use Rattle.seq_layout.proofs.CopiesPlaces.{test_of_place}
use Rattle.seq_layout.proofs.CopiesElements.{with_element, block_fits, word_fits, block_set, word_set, matches_after, state_set, state_matches, all_lost, failed_matches}

-- an element in service isn't down
pub serving_is_up : (s : State) → is_in_service s ≡ true → s ≢ Down
serving_is_up s serving down = false≢true (rw down at serving)

-- an element that is replaced by itself
pub unchanged : (m : Memories) (k : ℕ) (element : MemoryElement) → slice_get m.elements k ≡ Some element → with_element m k element ≡ m
unchanged m k element found =
    let same : set m.elements k element ≡ m.elements = rw (← get_or_from_slice_get m.elements k element element found) (set-get_or m.elements k element) in
    rw same refl

module _ (s : Shape) (m : Memories) (e : ℕ) (c : Bool) (k : ℕ) (here : k ≡ memory_of s.memories e c) (element : MemoryElement) (found : slice_get m.elements k ≡ Some element) where
  pub element_is : element ≡ element_of m (memory_of s.memories e c)
  element_is = sym (rw (← here) (get_or_from_slice_get m.elements k element no_element found))

  pub state_is : element.state ≡ state_of s (copies s m) e c
  unfolding copies
  state_is = ap (λ (x : MemoryElement). x.state) element_is

  pub is_up : state_of s (copies s m) e c ≢ Down → element.state ≢ Down
  is_up up down = up (sym state_is ∙ down)

  module _ (n at : ℕ) (matches : Matches s m) (within : k < s.memories) where
    module _ (p : IsPlace s.blocks e n) (there : at ≡ place_of s.memories s.blocks e n c) where
      pub block_in : at < length element.blocks
      block_in = rw (there, element_is) (block_fits s m e n c matches (rw (← here) within) p)

      pub block_is : (b : Block) → slice_get element.blocks at ≡ Some b → b ≡ (copies s m).block e n c
      unfolding copies
      block_is b got = rw (test_of_place s.blocks e n p, ← element_is, ← there) (sym (get_or_from_slice_get element.blocks at b zero_block got))

      pub block_written_is : 2 ≤ s.memories → (b : Block) → copies s (with_element m k (record element { blocks = set element.blocks at b })) ≡ with_block (copies s m) e n c b
      block_written_is two b = rw (here, there, element_is) (block_set s m e n c matches (rw (← here) within) two b p)

    module _ (p : IsPlace s.words e n) (there : at ≡ place_of s.memories s.words e n c) where
      pub word_in : at < length element.words
      word_in = rw (there, element_is) (word_fits s m e n c matches (rw (← here) within) p)

      pub word_is : (w : ℕ) → slice_get element.words at ≡ Some w → w ≡ (copies s m).word e n c
      unfolding copies
      word_is w got = rw (test_of_place s.words e n p, ← element_is, ← there) (sym (get_or_from_slice_get element.words at w 0 got))

      pub word_at_is : get_or element.words at 0 ≡ (copies s m).word e n c
      unfolding copies
      word_at_is = rw (test_of_place s.words e n p, ← element_is, ← there) refl

      pub word_written_is : 2 ≤ s.memories → (w : ℕ) → copies s (with_element m k (record element { words = set element.words at w })) ≡ with_word (copies s m) e n c w
      word_written_is two w = rw (here, there, element_is) (word_set s m e n c matches (rw (← here) within) two w p)

    pub blocks_matches : (b : Block) → Matches s (with_element m k (record element { blocks = set element.blocks at b }))
    blocks_matches b = matches_after s m k _ matches within (rw (length-set, element_is, ← here) refl) (rw (element_is, ← here) refl)

    pub words_matches : (w : ℕ) → Matches s (with_element m k (record element { words = set element.words at w }))
    words_matches w = matches_after s m k _ matches within (rw (element_is, ← here) refl) (rw (length-set, element_is, ← here) refl)

-- the element of a memory fails, or its state is changed
module _ (s : Shape) (m : Memories) (k : ℕ) (matches : Matches s m) (within : k < s.memories) (element : MemoryElement) (found : slice_get m.elements k ≡ Some element) where
  found_is : element ≡ element_of m k
  found_is = sym (get_or_from_slice_get m.elements k element no_element found)

  pub failed_is : copies s (with_element m k (empty_element Down (length element.blocks) (length element.words))) ≡ failed s (copies s m) k
  failed_is = rw found_is (all_lost s m k matches within)

  pub failed_keeps : Matches s (with_element m k (empty_element Down (length element.blocks) (length element.words)))
  failed_keeps = rw found_is (failed_matches s m k matches within)

  pub memory_state_is : element.state ≡ (copies s m).state k
  unfolding copies
  memory_state_is = ap (λ (x : MemoryElement). x.state) found_is

  pub state_set_is : (state : State) → copies s (with_element m k (record element { state = state })) ≡ with_state (copies s m) k state
  state_set_is state = rw found_is (state_set s m k matches within state)

  pub state_set_keeps : (state : State) → Matches s (with_element m k (record element { state = state }))
  state_set_keeps state = rw found_is (state_matches s m k matches within state)

-- what a test-and-set leaves matches, whatever it answered
pub swap_matches : {T E : Type 0} (s : Shape) (m : Memories) (k : ℕ) (element swapped after : MemoryElement) (result : Result T E) → with_element m k element ≡ m → Matches s m → Matches s (with_element m k swapped) → OnOk result (after ≡ swapped) → OnErr result (after ≡ element) → Matches s (with_element m k after)
swap_matches s m k element swapped after (Ok x) same matches kept ok err = rw ok kept
swap_matches s m k element swapped after (Err x) same matches kept ok err = rw (err, same) matches
