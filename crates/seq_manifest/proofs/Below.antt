-- Some number below another.
use Rattle.std.proofs.Common.{◌≡◌, ℕ, zero, suc, ◌+◌, ◌<◌, Bool, true, false, ◌||◌, inl, inr, refl, sym, ap, subst, ◌∙◌, arith, add-one}
use Rattle.std.proofs.lemmas.Bool.{cases_eq, or_cases, or_left, or_right, false≢true}
use Rattle.seq_manifest.specs.Faults.{some_below}

pub some_below-zero : (test : ℕ → Bool) → some_below 0 test ≡ false
unfolding some_below
some_below-zero test = refl

pub some_below-more : (n : ℕ) (test : ℕ → Bool) → some_below (n + 1) test ≡ (some_below n test || test n)
unfolding some_below
some_below-more n test = rw add-one refl

pub some_below-true : (n : ℕ) (test : ℕ → Bool) → some_below n test ≡ true → (k : ℕ) × (k < n) × (test k ≡ true)
unfolding some_below
some_below-true zero test e = absurd (false≢true e)
some_below-true (suc n) test e = elim (or_cases _ _ e) [
  | inl before ↦ let w = some_below-true n test before in (w.0, omega (arith, w.1), w.2)
  | inr here ↦ (n, omega arith, here)
]

pub some_below-from : (n k : ℕ) (test : ℕ → Bool) → k < n → test k ≡ true → some_below n test ≡ true
unfolding some_below
some_below-from zero k test lt e = absurd (omega arith)
some_below-from (suc n) k test lt e = elim (cases_eq k n) [
  | inl same ↦ or_right _ _ (subst (λ j. test j ≡ true) same e)
  | inr ne ↦ or_left _ _ (some_below-from n k test (below k n lt ne) e)
]
  where
    below : (k n : ℕ) → k < suc n → (k ≡ n → ⊥) → k < n
    below k n lt ne = elim (cases_eq k n) [ inl same ↦ absurd (ne same) | inr other ↦ omega arith ]

pub same_bool : (a b : Bool) → (a ≡ true → b ≡ true) → (b ≡ true → a ≡ true) → a ≡ b
same_bool true true f g = refl
same_bool true false f g = sym (f refl)
same_bool false true f g = g refl
same_bool false false f g = refl

pub below_step : (some some' : Bool) (n : ℕ) (test : ℕ → Bool) → some ≡ some_below n test → some' ≡ (some || test n) → some' ≡ some_below (n + 1) test
below_step some some' n test e f = f ∙ ap (λ b. b || test n) e ∙ sym (some_below-more n test)

pub or_then : (a b r : Bool) → a ≡ true → r ≡ true → r ≡ (a || b)
or_then true b r e f = f
or_then false b r e f = absurd (false≢true e)

pub or_else : (a b r : Bool) → a ≡ false → r ≡ b → r ≡ (a || b)
or_else true b r e f = absurd (false≢true (sym e))
or_else false b r e f = f
