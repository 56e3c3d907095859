-- A unit that is taken from its other copy is equal on both, and every other unit stays as it was.
use Rattle.std.proofs.Common.{◌≡◌, ◌≢◌, ℕ, Bool, true, false, not, Some, None, Option, inl, inr, refl, sym, ap, ◌∙◌}
use Rattle.std.proofs.lemmas.Bool.{cases_eq, true≢false, false≢true}
use Rattle.seq_words.specs.declared.block.Block as block
use Rattle.seq_memory.specs.declared.element.State.{State}
use Rattle.seq_layout.specs.Copies.{Copies, with_block, with_word, with_state}
use Rattle.seq_layout.specs.Units.{copy_on}
use Rattle.seq_layout.specs.declared.extents.Extent.{Extent}
use Rattle.seq_layout.specs.declared.units.WordAt.{WordAt}
use Rattle.seq_layout.specs.declared.units.Unit.{Unit}
use Rattle.seq_layout.specs.declared.units.Unit.TheVariants.{Block, Word}
use Rattle.seq_io.specs.Changes.Change.{To_block, To_word}
use Rattle.seq_turns.specs.Functions.{update_copy}
use Rattle.seq_turns.specs.Machines.{copies_after}
use Rattle.seq_turns.proofs.Functions.{copy_same, copy_other, copy_elsewhere, copy_other_part}
use Rattle.seq_reintegrate.specs.Stands.{IsEqual}
use Rattle.seq_reintegrate.specs.Taken.{taken_from, taken_next}

module _ {A : Type 0} (f : ℕ → ℕ → Bool → A) (e n : ℕ) where
  -- one copy of a part is taken from the other
  taken : Bool → ℕ → ℕ → Bool → A
  taken c = update_copy f e n c (f e n (not c))

  here : (c : Bool) → taken c e n false ≡ taken c e n true
  unfolding taken
  here true = copy_other f e n true (f e n false) e n false false≢true ∙ sym (copy_same f e n true (f e n false))
  here false = copy_same f e n false (f e n true) ∙ sym (copy_other f e n false (f e n true) e n true true≢false)

  stays : (c : Bool) (e' n' : ℕ) → f e' n' false ≡ f e' n' true → taken c e' n' false ≡ taken c e' n' true
  unfolding taken
  stays c e' n' equal = elim (cases_eq e' e) [
    | inl he ↦ elim (cases_eq n' n) [
      | inl hn ↦ (λ i. taken c (he i) (hn i) false) ∙ here c ∙ sym (λ i. taken c (he i) (hn i) true)
      | inr ne ↦ copy_other_part f e n c (f e n (not c)) e' n' false ne ∙ equal ∙ sym (copy_other_part f e n c (f e n (not c)) e' n' true ne)
    ]
    | inr ne ↦ copy_elsewhere f e n c (f e n (not c)) e' n' false ne ∙ equal ∙ sym (copy_elsewhere f e n c (f e n (not c)) e' n' true ne)
  ]

module _ (memories : ℕ) (p : Copies) (i : ℕ) where
  pub equal_taken : (u : Unit) → IsEqual (copies_after (taken_from memories p i u) p) u
  unfolding taken
  equal_taken (Block e n) = here p.block e.0 n (copy_on memories i e.0)
  equal_taken (Word w) = here p.word w.extent.0 w.word (copy_on memories i w.extent.0)

  pub equal_stays : (o : Option Unit) (u : Unit) → IsEqual p u → IsEqual (copies_after (taken_next memories p i o) p) u
  unfolding taken
  equal_stays None u equal = equal
  equal_stays (Some (Block e n)) (Block e' n') equal = stays p.block e.0 n (copy_on memories i e.0) e'.0 n' equal
  equal_stays (Some (Block e n)) (Word w') equal = equal
  equal_stays (Some (Word w)) (Block e' n') equal = equal
  equal_stays (Some (Word w)) (Word w') equal = stays p.word w.extent.0 w.word (copy_on memories i w.extent.0) w'.extent.0 w'.word equal

-- what is equal stays so where a memory's state is changed
pub equal_in_state : (p : Copies) (k : ℕ) (new : State) (u : Unit) → IsEqual p u → IsEqual (with_state p k new) u
unfolding with_state
equal_in_state p k new (Block e n) equal = equal
equal_in_state p k new (Word w) equal = equal

-- and where a part of another unit is written
pub equal_beside_block : (p : Copies) (e n : ℕ) (c : Bool) (b : block.Block) (u : Unit) → IsEqual p u → ((x : Extent) → u ≡ Block x n → x.0 ≢ e) → IsEqual (with_block p e n c b) u
unfolding with_block update_copy
equal_beside_block p e n c b (Word w) equal other = equal
equal_beside_block p e n c b (Block x k) equal other = elim (cases_eq k n) [
  | inl same ↦ let apart = other x (ap (Block x) same) in copy_elsewhere p.block e n c b x.0 k false apart ∙ equal ∙ sym (copy_elsewhere p.block e n c b x.0 k true apart)
  | inr ne ↦ copy_other_part p.block e n c b x.0 k false ne ∙ equal ∙ sym (copy_other_part p.block e n c b x.0 k true ne)
]

pub equal_beside_word : (p : Copies) (e n : ℕ) (c : Bool) (w : ℕ) (u : Unit) → IsEqual p u → ((x : WordAt) → u ≡ Word x → x.word ≡ n → x.extent.0 ≢ e) → IsEqual (with_word p e n c w) u
unfolding with_word update_copy
equal_beside_word p e n c w (Block x k) equal other = equal
equal_beside_word p e n c w (Word x) equal other = elim (cases_eq x.word n) [
  | inl same ↦ let apart = other x refl same in copy_elsewhere p.word e n c w x.extent.0 x.word false apart ∙ equal ∙ sym (copy_elsewhere p.word e n c w x.extent.0 x.word true apart)
  | inr ne ↦ copy_other_part p.word e n c w x.extent.0 x.word false ne ∙ equal ∙ sym (copy_other_part p.word e n c w x.extent.0 x.word true ne)
]

-- a copy that is set is a change of it
pub block_set : (p : Copies) (e n : ℕ) (c : Bool) (b : block.Block) → with_block p e n c b ≡ copies_after (To_block e n c b) p
unfolding with_block update_copy
block_set p e n c b = refl

pub word_set : (p : Copies) (e n : ℕ) (c : Bool) (w : ℕ) → with_word p e n c w ≡ copies_after (To_word e n c w) p
unfolding with_word update_copy
word_set p e n c w = refl
