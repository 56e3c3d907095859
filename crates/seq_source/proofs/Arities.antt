-- A line with another number of operands isn't of the form.
use Rattle.std.proofs.Common.{◌≡◌, ℕ, List, [], ◌∷◌, length, None, refl}
use Rattle.seq_source.specs.declared.items.Said.{Said}
use Rattle.seq_source.specs.declared.items.Said.TheVariants.{BadOperands}
use Rattle.seq_source.specs.Forms.{with_one, with_two, with_three}
use Rattle.seq_source.specs.Directives.{number_in}

pub one_none : (say : List ℕ → Said) (words : List (List ℕ)) → (length words ≡ 1 → ⊥) → BadOperands ≡ with_one say words
one_none say [] h = refl
one_none say (a ∷ []) h = absurd (h refl)
one_none say (a ∷ b ∷ words) h = refl

pub two_none : (say : List ℕ → List ℕ → Said) (words : List (List ℕ)) → (length words ≡ 2 → ⊥) → BadOperands ≡ with_two say words
two_none say [] h = refl
two_none say (a ∷ []) h = refl
two_none say (a ∷ b ∷ []) h = absurd (h refl)
two_none say (a ∷ b ∷ c ∷ words) h = refl

pub three_none : (say : List ℕ → List ℕ → List ℕ → Said) (words : List (List ℕ)) → (length words ≡ 3 → ⊥) → BadOperands ≡ with_three say words
three_none say [] h = refl
three_none say (a ∷ []) h = refl
three_none say (a ∷ b ∷ []) h = refl
three_none say (a ∷ b ∷ c ∷ []) h = absurd (h refl)
three_none say (a ∷ b ∷ c ∷ d ∷ words) h = refl

pub number_none : (words : List (List ℕ)) → (length words ≡ 1 → ⊥) → None ≡ number_in words
number_none [] h = refl
number_none (a ∷ []) h = absurd (h refl)
number_none (a ∷ b ∷ words) h = refl
