-- Fresh memories match their shape, serve, and hold zeros.
use Rattle.std.proofs.Common.{◌≡◌, ℕ, ◌<◌, ◌≤◌, Bool, true, length, get_or, ap, refl, ◌∙◌, arith}
use Rattle.std.proofs.lemmas.Bool.{cond_both}
use Rattle.std.proofs.lemmas.List.{length-replicate}
use Rattle.seq_words.specs.Blocks.{zero_block}
use Rattle.seq_words.specs.declared.block.Block.{Block}
use Rattle.seq_memory.specs.States.{is_in_service}
use Rattle.seq_memory.specs.declared.element.MemoryElement.{MemoryElement}
use Rattle.seq_memory.specs.declared.element.Memories.{Memories}
use Rattle.seq_layout.specs.Places.{memory_of, start_of, place_of, is_place}
use Rattle.seq_layout.specs.Shapes.{Shape}
use Rattle.seq_layout.specs.Copies.{no_element, element_of, copies, Matches, fresh_element, AreFresh, serves}
use Rattle.seq_layout.proofs.Apart.{memory_in}
use Rattle.seq_layout.proofs.CopiesPlaces.{zero_cell}

module _ (s : Shape) (m : Memories) (two : 2 ≤ s.memories) (count : length m.elements ≡ s.memories) (each : (i : ℕ) → i < s.memories → get_or m.elements i no_element ≡ fresh_element s i) where
  pub fresh_matches : Matches s m
  fresh_matches = record {
    memories = count;
    blocks = λ i inside. ap (λ (x : MemoryElement). length x.blocks) (each i inside) ∙ length-replicate (start_of s.memories s.blocks i (length s.blocks)) zero_block;
    words = λ i inside. ap (λ (x : MemoryElement). length x.words) (each i inside) ∙ length-replicate (start_of s.memories s.words i (length s.words)) 0;
  }

  of_copy : (e : ℕ) (c : Bool) → element_of m (memory_of s.memories e c) ≡ fresh_element s (memory_of s.memories e c)
  of_copy e c = each (memory_of s.memories e c) (memory_in s.memories e c (omega arith))

  block_zero : (e n : ℕ) (c : Bool) → (copies s m).block e n c ≡ zero_block
  unfolding copies
  block_zero e n c = cond_both (is_place s.blocks e n) _ _ (λ (b : Block). b ≡ zero_block)
      (λ _. ap (λ (x : MemoryElement). get_or x.blocks (place_of s.memories s.blocks e n c) zero_block) (of_copy e c) ∙ zero_cell zero_block (start_of s.memories s.blocks (memory_of s.memories e c) (length s.blocks)) (place_of s.memories s.blocks e n c))
      (λ _. refl)

  word_zero : (e n : ℕ) (c : Bool) → (copies s m).word e n c ≡ 0
  unfolding copies
  word_zero e n c = cond_both (is_place s.words e n) _ _ (λ (w : ℕ). w ≡ 0)
      (λ _. ap (λ (x : MemoryElement). get_or x.words (place_of s.memories s.words e n c) 0) (of_copy e c) ∙ zero_cell 0 (start_of s.memories s.words (memory_of s.memories e c) (length s.words)) (place_of s.memories s.words e n c))
      (λ _. refl)

  pub are_fresh : AreFresh s (copies s m)
  unfolding copies
  are_fresh = record {
    state = λ k inside. ap (λ (x : MemoryElement). x.state) (each k inside);
    block = block_zero;
    word = word_zero;
  }

  pub fresh_served : (e : ℕ) (c : Bool) → serves s (copies s m) e c ≡ true
  unfolding copies
  fresh_served e c = ap (λ (x : MemoryElement). is_in_service x.state) (of_copy e c)
