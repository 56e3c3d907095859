-- A line with another number of words is none of the forms.
use Rattle.std.proofs.Common.{◌≡◌, ℕ, List, [], ◌∷◌, length, refl}
use Rattle.seq_schedule.specs.declared.lines.Said.{Said}
use Rattle.seq_schedule.specs.declared.lines.Said.TheVariants.{NoForm}
use Rattle.seq_schedule.specs.Said.{with_one, with_two, with_four}

pub one_none : (say : List ℕ → Said) (words : List (List ℕ)) → (length words ≡ 1 → ⊥) → NoForm ≡ with_one say words
one_none say [] h = refl
one_none say (a ∷ []) h = absurd (h refl)
one_none say (a ∷ b ∷ words) h = refl

pub two_none : (say : List ℕ → List ℕ → Said) (words : List (List ℕ)) → (length words ≡ 2 → ⊥) → NoForm ≡ with_two say words
two_none say [] h = refl
two_none say (a ∷ []) h = refl
two_none say (a ∷ b ∷ []) h = absurd (h refl)
two_none say (a ∷ b ∷ c ∷ words) h = refl

pub four_none : (say : List ℕ → List ℕ → List ℕ → List ℕ → Said) (words : List (List ℕ)) → (length words ≡ 4 → ⊥) → NoForm ≡ with_four say words
four_none say [] h = refl
four_none say (a ∷ []) h = refl
four_none say (a ∷ b ∷ []) h = refl
four_none say (a ∷ b ∷ c ∷ []) h = refl
four_none say (a ∷ b ∷ c ∷ d ∷ []) h = absurd (h refl)
four_none say (a ∷ b ∷ c ∷ d ∷ e ∷ words) h = refl
