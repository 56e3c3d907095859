-- One place of the memories is changed, seen by the parts of extents. Blocks and words are cells alike.
use Rattle.std.proofs.Common.{◌≡◌, ◌≢◌, ℕ, ◌+◌, ◌<◌, Bool, true, false, cond, List, length, get_or, set, arith, refl, eqb, ltb, inl, inr, sym, ◌&&◌, ◌∙◌, get_or-set_same, get_or-set_other, replicate}
use Rattle.std.proofs.lemmas.Bool.{false≢true, cases_eq, cases_lt, and_parts, eqb-true, eqb-false, eq-eqb, ltb-true, lt-ltb}
use Rattle.std.proofs.lemmas.List.{get_or-replicate, get_or_past, length-replicate}
use mathlib.Core.Path.{fun_ext}
use Rattle.seq_layout.specs.Places.{memory_of, start_of, place_of, IsPlace, is_place, IsSamePart, AreApart}
use Rattle.seq_layout.specs.Copies.{same_copy}
use Rattle.seq_layout.proofs.Apart.{ends_before, keeps_copy}

-- the cell of each copy of each part, and a default where an extent has no such part
abbrev pub cell_of : {A : Type 0} → ℕ → List ℕ → A → (ℕ → List A) → ℕ → ℕ → Bool → A
cell_of m sizes none cells e n c = cond (is_place sizes e n) (get_or (cells (memory_of m e c)) (place_of m sizes e n c) none) none

-- whether two copies of parts are one
abbrev pub is_same_part : ℕ → ℕ → Bool → ℕ → ℕ → Bool → Bool
is_same_part e n c e' n' c' = (eqb e' e && eqb n' n) && same_copy c' c

same_copy_refl : (c : Bool) → same_copy c c ≡ true
same_copy_refl true = refl
same_copy_refl false = refl

same_copy_is : (c c' : Bool) → same_copy c' c ≡ true → c ≡ c'
same_copy_is true true h = refl
same_copy_is false true h = h
same_copy_is true false h = sym h
same_copy_is false false h = refl

pub test_of_same : (e n : ℕ) (c : Bool) (e' n' : ℕ) (c' : Bool) → IsSamePart e n c e' n' c' → is_same_part e n c e' n' c' ≡ true
test_of_same e n c e' n' c' h =
    rw (← h.extent, ← h.part, ← h.copy) (rw (eq-eqb e e refl, eq-eqb n n refl) (same_copy_refl c))

pub same_of_test : (e n : ℕ) (c : Bool) (e' n' : ℕ) (c' : Bool) → is_same_part e n c e' n' c' ≡ true → IsSamePart e n c e' n' c'
same_of_test e n c e' n' c' h =
    let parts = and_parts (eqb e' e && eqb n' n) (same_copy c' c) h in
    let numbers = and_parts (eqb e' e) (eqb n' n) parts.0 in
    record { extent = sym (eqb-true e' e numbers.0); part = sym (eqb-true n' n numbers.1); copy = same_copy_is c c' parts.1 }

place_of_test : (sizes : List ℕ) (e n : ℕ) → is_place sizes e n ≡ true → IsPlace sizes e n
place_of_test sizes e n h =
    let parts = and_parts (ltb e (length sizes)) (ltb n (get_or sizes e 0)) h in
    record { extent_in = ltb-true _ _ parts.0; part_in = ltb-true _ _ parts.1 }

pub test_of_place : (sizes : List ℕ) (e n : ℕ) → IsPlace sizes e n → is_place sizes e n ≡ true
test_of_place sizes e n p = rw (lt-ltb e (length sizes) p.extent_in) (lt-ltb n (get_or sizes e 0) p.part_in)

-- the place of a part is within its memory
pub within_cells : {A : Type 0} (m : ℕ) (sizes : List ℕ) (cells : List A) (e n : ℕ) (c : Bool) → length cells ≡ start_of m sizes (memory_of m e c) (length sizes) → IsPlace sizes e n → place_of m sizes e n c < length cells
within_cells m sizes cells e n c whole p =
    let before = ends_before m sizes (memory_of m e c) e (length sizes) (keeps_copy m e c) p.extent_in in
    omega (arith, p.part_in)

module _ {A : Type 0} (m : ℕ) (sizes : List ℕ) (none : A) (cells after : ℕ → List A) (e n : ℕ) (c : Bool) (v : A) (are_apart : AreApart m sizes) (p : IsPlace sizes e n) (fits : place_of m sizes e n c < length (cells (memory_of m e c))) (here : after (memory_of m e c) ≡ set (cells (memory_of m e c)) (place_of m sizes e n c) v) (elsewhere : (i : ℕ) → i ≢ memory_of m e c → after i ≡ cells i) where
  other_cell : (e' n' : ℕ) (c' : Bool) → IsPlace sizes e' n' → ¬ (IsSamePart e n c e' n' c') → get_or (after (memory_of m e' c')) (place_of m sizes e' n' c') none ≡ get_or (cells (memory_of m e' c')) (place_of m sizes e' n' c') none
  other_cell e' n' c' q differ =
      elim (cases_eq (memory_of m e' c') (memory_of m e c)) [
        | inl same ↦
            let different : place_of m sizes e' n' c' ≢ place_of m sizes e n c = λ h. differ (are_apart e n c e' n' c' p q (sym same) (sym h)) in
            let different_here : start_of m sizes (memory_of m e c) e' + n' ≢ place_of m sizes e n c = rw same at different in
            rw same (rw here (get_or-set_other _ _ _ v none different_here))
        | inr other ↦ rw (elsewhere (memory_of m e' c') other) refl
      ]

  -- the cell of a part, by the two tests
  cell_after : (e' n' : ℕ) (c' : Bool) (same place : Bool) → is_same_part e n c e' n' c' ≡ same → is_place sizes e' n' ≡ place → cond place (get_or (after (memory_of m e' c')) (place_of m sizes e' n' c') none) none ≡ cond same v (cond place (get_or (cells (memory_of m e' c')) (place_of m sizes e' n' c') none) none)
  cell_after e' n' c' true true is_same is_there =
      let h = same_of_test e n c e' n' c' is_same in
      rw (← h.extent, ← h.part, ← h.copy) (rw here (get_or-set_same _ _ v none fits))
  cell_after e' n' c' true false is_same is_there =
      let h = same_of_test e n c e' n' c' is_same in
      let gone : is_place sizes e n ≡ false = rw (h.extent, h.part) is_there in
      absurd (false≢true (sym gone ∙ test_of_place sizes e n p))
  cell_after e' n' c' false true is_same is_there = other_cell e' n' c' (place_of_test sizes e' n' is_there) (λ h. absurd (false≢true (sym is_same ∙ test_of_same e n c e' n' c' h)))
  cell_after e' n' c' false false is_same is_there = refl

  -- one cell is changed, and no other
  pub cells_after : cell_of m sizes none after ≡ (λ e' n' c'. cond (is_same_part e n c e' n' c') v (cell_of m sizes none cells e' n' c'))
  cells_after = fun_ext (λ e'. fun_ext (λ n'. fun_ext (λ c'. cell_after e' n' c' _ _ refl refl)))

pub zero_cell : {A : Type 0} (none : A) (size i : ℕ) → get_or (replicate size none) i none ≡ none
zero_cell none size i =
    elim (cases_lt i size) [
      | inl inside ↦ get_or-replicate size i none none inside
      | inr past ↦ get_or_past (replicate size none) i none (rw length-replicate past)
    ]

module _ {A : Type 0} (m : ℕ) (sizes : List ℕ) (none : A) (cells after : ℕ → List A) (k size : ℕ) (here : after k ≡ replicate size none) (elsewhere : (i : ℕ) → i ≢ k → after i ≡ cells i) where
  cell_lost : (e n : ℕ) (c : Bool) (gone place : Bool) → eqb (memory_of m e c) k ≡ gone → cond place (get_or (after (memory_of m e c)) (place_of m sizes e n c) none) none ≡ cond gone none (cond place (get_or (cells (memory_of m e c)) (place_of m sizes e n c) none) none)
  cell_lost e n c true true is_gone =
      let same : after (memory_of m e c) ≡ replicate size none = rw (eqb-true (memory_of m e c) k is_gone) here in
      rw same (zero_cell none size (place_of m sizes e n c))
  cell_lost e n c false true is_gone = rw (elsewhere (memory_of m e c) (eqb-false (memory_of m e c) k is_gone)) refl
  cell_lost e n c true false is_gone = refl
  cell_lost e n c false false is_gone = refl

  -- all cells of one memory are lost, and no other
  pub cells_lost : cell_of m sizes none after ≡ (λ e n c. cond (eqb (memory_of m e c) k) none (cell_of m sizes none cells e n c))
  cells_lost = fun_ext (λ e. fun_ext (λ n. fun_ext (λ c. cell_lost e n c _ (is_place sizes e n) refl)))
