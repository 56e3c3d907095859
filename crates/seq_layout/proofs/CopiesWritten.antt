-- A turn that writes one copy, if it is in service: what stands there afterwards, and that all else is as before.
use Rattle.std.proofs.Common.{◌≡◌, ◌≢◌, ℕ, Bool, true, false, refl, sym, ap, inl, inr, ◌∙◌}
use Rattle.std.proofs.lemmas.Bool.{false≢true, cases_Bool}
use Rattle.seq_words.specs.declared.block.Block.{Block}
use Rattle.seq_memory.specs.States.{is_in_service}
use Rattle.seq_layout.specs.Places.{memory_of, IsSamePart}
use Rattle.seq_layout.specs.Shapes.{Shape}
use Rattle.seq_layout.specs.Copies.{Copies, serves, with_block, with_word, block_written, word_written, failed}
use Rattle.seq_layout.proofs.CopiesLaws.{block_changes_alone, word_changes_alone, memory_fails_alone}

-- what holds of the memories with the copy changed, and as they were, holds after the turn
pub after_block : (P : Copies → Type 0) (s : Shape) (p : Copies) (e n : ℕ) (c : Bool) (b : Block) → P (with_block p e n c b) → P p → P (block_written s p e n c b)
unfolding block_written
after_block P s p e n c b changed same =
    elim (cases_Bool (serves s p e c)) [
      | inl served ↦ rw served changed
      | inr out ↦ rw out same
    ]

pub after_word : (P : Copies → Type 0) (s : Shape) (p : Copies) (e n : ℕ) (c : Bool) (w : ℕ) → P (with_word p e n c w) → P p → P (word_written s p e n c w)
unfolding word_written
after_word P s p e n c w changed same =
    elim (cases_Bool (serves s p e c)) [
      | inl served ↦ rw served changed
      | inr out ↦ rw out same
    ]

pub block_states : (s : Shape) (p : Copies) (e n : ℕ) (c : Bool) (b : Block) → (block_written s p e n c b).state ≡ p.state
block_states s p e n c b = after_block (λ q. q.state ≡ p.state) s p e n c b (block_changes_alone p e n c b).states refl

pub word_states : (s : Shape) (p : Copies) (e n : ℕ) (c : Bool) (w : ℕ) → (word_written s p e n c w).state ≡ p.state
word_states s p e n c w = after_word (λ q. q.state ≡ p.state) s p e n c w (word_changes_alone p e n c w).states refl

pub block_words : (s : Shape) (p : Copies) (e n : ℕ) (c : Bool) (b : Block) → (block_written s p e n c b).word ≡ p.word
block_words s p e n c b = after_block (λ q. q.word ≡ p.word) s p e n c b (block_changes_alone p e n c b).words refl

pub word_blocks : (s : Shape) (p : Copies) (e n : ℕ) (c : Bool) (w : ℕ) → (word_written s p e n c w).block ≡ p.block
word_blocks s p e n c w = after_word (λ q. q.block ≡ p.block) s p e n c w (word_changes_alone p e n c w).blocks refl

pub block_here : (s : Shape) (p : Copies) (e n : ℕ) (c : Bool) (b : Block) → serves s p e c ≡ true → (block_written s p e n c b).block e n c ≡ b
unfolding block_written
block_here s p e n c b served = rw served (block_changes_alone p e n c b).here

pub word_here : (s : Shape) (p : Copies) (e n : ℕ) (c : Bool) (w : ℕ) → serves s p e c ≡ true → (word_written s p e n c w).word e n c ≡ w
unfolding word_written
word_here s p e n c w served = rw served (word_changes_alone p e n c w).here

pub block_elsewhere : (s : Shape) (p : Copies) (e n : ℕ) (c : Bool) (b : Block) (e' n' : ℕ) (c' : Bool) → ¬ (IsSamePart e n c e' n' c') → (block_written s p e n c b).block e' n' c' ≡ p.block e' n' c'
block_elsewhere s p e n c b e' n' c' other = after_block (λ q. q.block e' n' c' ≡ p.block e' n' c') s p e n c b ((block_changes_alone p e n c b).elsewhere e' n' c' other) refl

pub word_elsewhere : (s : Shape) (p : Copies) (e n : ℕ) (c : Bool) (w : ℕ) (e' n' : ℕ) (c' : Bool) → ¬ (IsSamePart e n c e' n' c') → (word_written s p e n c w).word e' n' c' ≡ p.word e' n' c'
word_elsewhere s p e n c w e' n' c' other = after_word (λ q. q.word e' n' c' ≡ p.word e' n' c') s p e n c w ((word_changes_alone p e n c w).elsewhere e' n' c' other) refl

-- a copy that serves after a memory failed served before, on another memory
pub served_before : (s : Shape) (p : Copies) (k e : ℕ) (c : Bool) → serves s (failed s p k) e c ≡ true → (serves s p e c ≡ true) × (memory_of s.memories e c ≢ k)
unfolding failed
served_before s p k e c served =
    let other : memory_of s.memories e c ≢ k = λ here. false≢true (sym (ap is_in_service (memory_fails_alone s p k).down) ∙ ap (λ i. is_in_service ((failed s p k).state i)) (sym here) ∙ served) in
    (ap is_in_service (sym ((memory_fails_alone s p k).states (memory_of s.memories e c) other)) ∙ served, other)
