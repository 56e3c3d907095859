-- The first place in a list, or its length where there is none.
use Rattle.std.proofs.Common.{◌≡◌, ℕ, suc, ◌≤◌, ◌+◌, Bool, true, false, not, cond, ltb, List, [], ◌∷◌, length, Option, Some, None, unwrap_or, refl, ap, ◌∙◌, arith}
use Rattle.std.specs.List.{position, position_or_len, prefix_len}
use Rattle.std.proofs.lemmas.Bool.{ltb-false}

le_length : (p : ℕ → Bool) (xs : List ℕ) → prefix_len p xs ≤ length xs
le_length p [] = omega arith
le_length p (x ∷ xs) = step (p x) (prefix_len p xs) (length xs) (le_length p xs)
  where
    step : (b : Bool) (m n : ℕ) → m ≤ n → cond b (1 + m) 0 ≤ suc n
    step true m n h = omega arith
    step false m n h = omega arith

either : (b : Bool) (m n : ℕ) → (b ≡ false → n ≡ m) → unwrap_or (cond b (Some m) None) n ≡ m
either true m n h = refl
either false m n h = h refl

pub first_is : (p : ℕ → Bool) (xs : List ℕ) (o : Option ℕ) (n : ℕ) → o ≡ position p xs → n ≡ unwrap_or o (length xs) → n ≡ position_or_len p xs
first_is p xs o n e f =
    let le = le_length (λ x. not (p x)) xs in
    f ∙ ap (λ o. unwrap_or o (length xs)) e ∙ either (ltb (position_or_len p xs) (length xs)) (position_or_len p xs) (length xs) (λ no. let ge = ltb-false _ _ no in omega arith)

pub first_below : (p : ℕ → Bool) (xs : List ℕ) (n : ℕ) → n ≡ position_or_len p xs → n ≤ length xs
first_below p xs n e = let le = le_length (λ x. not (p x)) xs in omega arith
