-- What copies in service hold after a turn that writes one of them, and after what happens elsewhere.
use Rattle.std.proofs.Common.{◌≡◌, ◌≢◌, ℕ, Bool, true, false, sym, ap, inl, inr, ◌∙◌}
use Rattle.std.proofs.lemmas.Bool.{false≢true, cases_eq}
use Rattle.seq_words.specs.declared.block.Block.{Block}
use Rattle.seq_memory.specs.States.{is_in_service}
use Rattle.seq_memory.specs.declared.element.State.{State}
use Rattle.seq_layout.specs.declared.units.WordAt.{WordAt}
use Rattle.seq_layout.specs.Places.{memory_of}
use Rattle.seq_layout.specs.Shapes.{Shape}
use Rattle.seq_layout.specs.Copies.{Copies, serves, with_block, with_word, with_state, block_written, word_written}
use Rattle.seq_layout.specs.Held.{Holds, HoldBoth, HeldWordsSurvive, HeldBlocksSurvive}
use Rattle.seq_layout.proofs.CopiesLaws.{block_changes_alone, word_changes_alone, memory_fails_alone, state_changes_alone}
use Rattle.seq_layout.proofs.CopiesWritten.{block_states, block_words, word_states, word_here, word_elsewhere, served_before}

-- a copy serves as before where the states are as before
pub serves_as_before : (s : Shape) (p q : Copies) (e : ℕ) (c : Bool) → q.state ≡ p.state → serves s q e c ≡ true → serves s p e c ≡ true
serves_as_before s p q e c states serving = ap (λ states. is_in_service (states (memory_of s.memories e c))) (sym states) ∙ serving

-- a copy that serves after a memory took a state out of service served before
pub served_in_state : (s : Shape) (p : Copies) (k : ℕ) (after : State) (e : ℕ) (c : Bool) → is_in_service after ≡ false → serves s (with_state p k after) e c ≡ true → serves s p e c ≡ true
served_in_state s p k after e c out serving =
    let me = memory_of s.memories e c in
    let changes = state_changes_alone p k after in
    elim (cases_eq me k) [
      | inl here ↦ absurd (false≢true (sym (ap is_in_service changes.here ∙ out) ∙ ap (λ i. is_in_service ((with_state p k after).state i)) (sym here) ∙ serving))
      | inr other ↦ ap is_in_service (sym (changes.elsewhere me other)) ∙ serving
    ]

-- the copy of a word that was written holds the value
pub word_holds : (s : Shape) (p : Copies) (at : WordAt) (c : Bool) (v : ℕ) → Holds s (word_written s p at.extent.0 at.word c v) at c v
word_holds s p at c v serving =
    word_here s p at.extent.0 at.word c v (serves_as_before s p (word_written s p at.extent.0 at.word c v) at.extent.0 c (word_states s p at.extent.0 at.word c v) serving)

-- and the other copy holds what it held
pub other_word_holds : (s : Shape) (p : Copies) (at : WordAt) (c c' : Bool) (v w : ℕ) → c' ≢ c → Holds s p at c v → Holds s (word_written s p at.extent.0 at.word c' w) at c v
other_word_holds s p at c c' v w other holds serving =
    word_elsewhere s p at.extent.0 at.word c' w at.extent.0 at.word c (λ same. other same.copy) ∙
    holds (serves_as_before s p (word_written s p at.extent.0 at.word c' w) at.extent.0 c (word_states s p at.extent.0 at.word c' w) serving)

pub shadow_word_stays : (s : Shape) (p : Copies) (at : WordAt) (v : ℕ) → (word_written s p at.extent.0 at.word false v).word at.extent.0 at.word true ≡ p.word at.extent.0 at.word true
shadow_word_stays s p at v = word_elsewhere s p at.extent.0 at.word false v at.extent.0 at.word true (λ same. false≢true same.copy)

-- so with the primary held before, both are held after the shadow is written; and the other way round
pub both_by_shadow : (s : Shape) (p : Copies) (at : WordAt) (v w : ℕ) → Holds s p at false v → HoldBoth s (word_written s p at.extent.0 at.word true w) at v w
both_by_shadow s p at v w primary = record {
  primary = other_word_holds s p at false true v w (λ same. false≢true (sym same)) primary;
  shadow = word_holds s p at true w;
}

pub both_by_primary : (s : Shape) (p : Copies) (at : WordAt) (v w : ℕ) → Holds s p at true w → HoldBoth s (word_written s p at.extent.0 at.word false v) at v w
both_by_primary s p at v w shadow = record {
  primary = word_holds s p at false v;
  shadow = other_word_holds s p at true false w v false≢true shadow;
}

-- a block that is written leaves what words hold
pub word_holds_still : (s : Shape) (p : Copies) (at : WordAt) (c : Bool) (v e n : ℕ) (c' : Bool) (b : Block) → Holds s p at c v → Holds s (block_written s p e n c' b) at c v
word_holds_still s p at c v e n c' b holds serving =
    ap (λ words. words at.extent.0 at.word c) (block_words s p e n c' b) ∙
    holds (serves_as_before s p (block_written s p e n c' b) at.extent.0 c (block_states s p e n c' b) serving)

pub both_hold_still : (s : Shape) (p : Copies) (at : WordAt) (v w e n : ℕ) (c : Bool) (b : Block) → HoldBoth s p at v w → HoldBoth s (block_written s p e n c b) at v w
both_hold_still s p at v w e n c b both = record {
  primary = word_holds_still s p at false v e n c b both.primary;
  shadow = word_holds_still s p at true w e n c b both.shadow;
}

-- a copy that serves isn't away
not_away : (s : Shape) (p : Copies) (e e' : ℕ) (c c' : Bool) → e ≡ e' → c ≡ c' → serves s p e c ≡ false → serves s p e' c' ≡ true → ⊥
not_away s p e e' c c' extent copy away serving = false≢true (sym away ∙ (λ i. serves s p (extent i) (copy i)) ∙ serving)

pub held_words_survive : HeldWordsSurvive
held_words_survive s at c v = record {
  block = λ p e n c' b any holds serving.
      ap (λ words. words at.extent.0 at.word c) (block_changes_alone p e n c' b).words ∙
      holds (serves_as_before s p (with_block p e n c' b) at.extent.0 c (block_changes_alone p e n c' b).states serving);
  word = λ p e n c' w other holds serving.
      (word_changes_alone p e n c' w).elsewhere at.extent.0 at.word c (λ same. other.other (sym same.extent) (sym same.part)) ∙
      holds (serves_as_before s p (with_word p e n c' w) at.extent.0 c (word_changes_alone p e n c' w).states serving);
  block_away = λ p e n c' b away holds serving.
      ap (λ words. words at.extent.0 at.word c) (block_changes_alone p e n c' b).words ∙
      holds (serves_as_before s p (with_block p e n c' b) at.extent.0 c (block_changes_alone p e n c' b).states serving);
  word_away = λ p e n c' w away holds serving.
      let served = serves_as_before s p (with_word p e n c' w) at.extent.0 c (word_changes_alone p e n c' w).states serving in
      (word_changes_alone p e n c' w).elsewhere at.extent.0 at.word c (λ same. not_away s p e at.extent.0 c' c same.extent same.copy away served) ∙ holds served;
  failure = λ p k holds serving.
      let before = served_before s p k at.extent.0 c serving in
      (memory_fails_alone s p k).words at.extent.0 at.word c before.1 ∙ holds before.0;
  state = λ p k after out holds serving.
      ap (λ words. words at.extent.0 at.word c) (state_changes_alone p k after).words ∙
      holds (served_in_state s p k after at.extent.0 c out serving);
}

pub held_blocks_survive : HeldBlocksSurvive
held_blocks_survive s e n c b = record {
  block = λ p e' n' c' b' other holds serving.
      (block_changes_alone p e' n' c' b').elsewhere e n c (λ same. other.other (sym same.extent) (sym same.part)) ∙
      holds (serves_as_before s p (with_block p e' n' c' b') e c (block_changes_alone p e' n' c' b').states serving);
  word = λ p e' n' c' w any holds serving.
      ap (λ blocks. blocks e n c) (word_changes_alone p e' n' c' w).blocks ∙
      holds (serves_as_before s p (with_word p e' n' c' w) e c (word_changes_alone p e' n' c' w).states serving);
  block_away = λ p e' n' c' b' away holds serving.
      let served = serves_as_before s p (with_block p e' n' c' b') e c (block_changes_alone p e' n' c' b').states serving in
      (block_changes_alone p e' n' c' b').elsewhere e n c (λ same. not_away s p e' e c' c same.extent same.copy away served) ∙ holds served;
  word_away = λ p e' n' c' w away holds serving.
      ap (λ blocks. blocks e n c) (word_changes_alone p e' n' c' w).blocks ∙
      holds (serves_as_before s p (with_word p e' n' c' w) e c (word_changes_alone p e' n' c' w).states serving);
  failure = λ p k holds serving.
      let before = served_before s p k e c serving in
      (memory_fails_alone s p k).blocks e n c before.1 ∙ holds before.0;
  state = λ p k after out holds serving.
      ap (λ blocks. blocks e n c) (state_changes_alone p k after).blocks ∙
      holds (served_in_state s p k after e c out serving);
}
