-- The units of a flush by their numbers: which they are, where they stand, and that no two are of the same block.
use Rattle.std.proofs.Common.{◌≡◌, ℕ, zero, suc, ◌+◌, ◌-◌, ◌<◌, ◌≤◌, true, false, leb, List, length, drop, get_or, length-drop, arith, refl, sym, ◌∙◌, inl, inr}
use Rattle.std.proofs.lemmas.Bool.{cases_lt, cases_order, leb-true, leb-false}
use Rattle.std.proofs.lemmas.Bool.Decides.{nat_tests}
use Rattle.std.proofs.lemmas.List.{length-append, get_or_append_left, get_or-append_right, get_or_default, get_or-drop}
use Rattle.seq_words.specs.declared.block.Block.{Block}
use Rattle.seq_layout.specs.Shapes.{Shape}
use Rattle.seq_layout.specs.Places.{IsPlace}
use Rattle.seq_cache.specs.declared.change.Change.{Change}
use Rattle.seq_cache.specs.Changes.{IsAscending, is_before}
use Rattle.seq_flush.specs.Units.{context_change, context_changes, units_of, HavePlaces}
use Rattle.seq_flush.specs.Turns.{no_change, unit_at}
use Rattle.seq_flush.specs.Facts.{AreApart}
use Rattle.seq_flush.specs.Laws.{RestIsApart}

pub length_units : (p : ℕ) (context : List Block) (changes : List Change) → length (units_of p context changes) ≡ length changes + 8
unfolding units_of
length_units p context changes = length-append changes (context_changes p context)

-- whether a number is below that of the units
pub units_more : (p : ℕ) (context : List Block) (changes : List Change) (n : ℕ) → leb (length (units_of p context changes)) n ≡ false → n < length changes + 8
units_more p context changes n more = omega (arith, length_units p context changes, leb-false _ _ more)

pub units_done : (p : ℕ) (context : List Block) (changes : List Change) (n : ℕ) → leb (length (units_of p context changes)) n ≡ true → length changes + 8 ≤ n
units_done p context changes n done = omega (arith, length_units p context changes, leb-true _ _ done)

-- a block of the context by its number
context_at : (p : ℕ) (context : List Block) (k : ℕ) → k < 8 → get_or (context_changes p context) k no_change ≡ context_change p context k
context_at p context zero h = refl
context_at p context (suc zero) h = refl
context_at p context (suc (suc zero)) h = refl
context_at p context (suc (suc (suc zero))) h = refl
context_at p context (suc (suc (suc (suc zero)))) h = refl
context_at p context (suc (suc (suc (suc (suc zero))))) h = refl
context_at p context (suc (suc (suc (suc (suc (suc zero)))))) h = refl
context_at p context (suc (suc (suc (suc (suc (suc (suc zero))))))) h = refl
context_at p context (suc (suc (suc (suc (suc (suc (suc (suc k)))))))) h = absurd (omega arith)

-- a unit below the number of changes is that change
pub unit_changed : (p : ℕ) (context : List Block) (changes : List Change) (i : ℕ) (none : Change) → i < length changes → unit_at (units_of p context changes) i ≡ get_or changes i none
unfolding units_of
unit_changed p context changes i none inside =
    get_or_append_left changes (context_changes p context) no_change i inside ∙ get_or_default changes i no_change none inside

-- one after them is a block of the context
pub unit_context : (p : ℕ) (context : List Block) (changes : List Change) (i : ℕ) → length changes ≤ i → i < length changes + 8 → unit_at (units_of p context changes) i ≡ context_change p context (i - length changes)
unfolding units_of
unit_context p context changes i after within =
    get_or-append_right changes (context_changes p context) (length changes) i no_change refl after ∙ context_at p context (i - length changes) (omega arith)

-- each unit has a place
pub unit_has_place : (s : Shape) (p : ℕ) (context : List Block) (changes : List Change) (i : ℕ) → HavePlaces s p changes → i < length changes + 8 → IsPlace s.blocks (unit_at (units_of p context changes) i).extent.0 (unit_at (units_of p context changes) i).place
unit_has_place s p context changes i places within =
    elim (cases_lt i (length changes)) [
      | inl inside ↦ rw (unit_changed p context changes i no_change inside) (places.changed i no_change inside).place
      | inr after ↦ rw (unit_context p context changes i after within) (places.context (i - length changes) (omega arith))
    ]

-- a block isn't before itself
not_before : (e n e' n' : ℕ) → is_before e n e' n' ≡ true → e ≡ e' → n ≡ n' → ⊥
not_before e n e' n' before extent place = grind (arith, nat_tests)

module _ (s : Shape) (p : ℕ) (context : List Block) (changes : List Change) (up : IsAscending changes) (places : HavePlaces s p changes) where
  -- a unit and one after it are of different blocks
  differ : (i j : ℕ) → i < j → j < length changes + 8 → (unit_at (units_of p context changes) i).extent.0 ≡ (unit_at (units_of p context changes) j).extent.0 → (unit_at (units_of p context changes) i).place ≡ (unit_at (units_of p context changes) j).place → ⊥
  differ i j lt within extent place =
      elim (cases_lt j (length changes)) [
        | inl inside ↦
            let first = unit_changed p context changes i no_change (omega arith) in
            let second = unit_changed p context changes j no_change inside in
            not_before _ _ _ _ (up.pairs i j no_change lt inside) (rw (first, second) at extent) (rw (first, second) at place)
        | inr after ↦
            let second = unit_context p context changes j after within in
            elim (cases_lt i (length changes)) [
              | inl inside ↦
                  let first = unit_changed p context changes i no_change inside in
                  let beside = (places.changed i no_change inside).beside (rw (first, second) at extent) in
                  absurd (omega (arith, beside, rw (first, second) at place))
              | inr both_after ↦
                  let first = unit_context p context changes i both_after (omega arith) in
                  absurd (omega (arith, rw (first, second) at place))
            ]
      ]

  pub units_apart : AreApart (units_of p context changes)
  units_apart = record { number = number }
    where
      number : (i j : ℕ) → i < length (units_of p context changes) → j < length (units_of p context changes) → (unit_at (units_of p context changes) i).extent.0 ≡ (unit_at (units_of p context changes) j).extent.0 → (unit_at (units_of p context changes) i).place ≡ (unit_at (units_of p context changes) j).place → i ≡ j
      number i j first second extent place =
          let all = length_units p context changes in
          elim (cases_order i j) [
            | inl same ↦ same
            | inr (inl below) ↦ absurd (differ i j below (omega arith) extent place)
            | inr (inr above) ↦ absurd (differ j i above (omega arith) (sym extent) (sym place))
          ]

-- units that are apart are so from any of them on
pub rest_apart : RestIsApart
rest_apart us k apart = record { number = number }
  where
    number : (i j : ℕ) → i < length (drop k us) → j < length (drop k us) → (unit_at (drop k us) i).extent.0 ≡ (unit_at (drop k us) j).extent.0 → (unit_at (drop k us) i).place ≡ (unit_at (drop k us) j).place → i ≡ j
    number i j first second extent place =
        let a : unit_at (drop k us) i ≡ unit_at us (k + i) = get_or-drop k us i no_change in
        let b : unit_at (drop k us) j ≡ unit_at us (k + j) = get_or-drop k us j no_change in
        let same : k + i ≡ k + j = apart.number (k + i) (k + j) (omega (arith, length-drop k us)) (omega (arith, length-drop k us)) (rw (a, b) at extent) (rw (a, b) at place) in
        omega arith
