-- The lowest number that passes a test, found by going up.
use Rattle.std.proofs.Common.{◌≡◌, ℕ, zero, suc, ◌+◌, ◌<◌, Bool, true, false, ◌⊎◌, inl, inr, Option, Some, None, refl, sym, ◌∙◌, arith, add-one}
use Rattle.std.proofs.lemmas.Bool.{cases_eq}
use Rattle.std.proofs.Math.Nat.{eq-or-lt_of_le}
use Rattle.seq_ruling.specs.Lowest.{lowest, IsLowest}

-- no number below n passes
abbrev pub IsNoneBelow : (ℕ → Bool) → ℕ → Type 0
IsNoneBelow test n = (j : ℕ) → j < n → test j ≡ false

-- one number more
step_none : (test : ℕ → Bool) (n : ℕ) → lowest test n ≡ None → test n ≡ false → lowest test (suc n) ≡ None
unfolding lowest
step_none test n below here = rw (below, here) refl

step_here : (test : ℕ → Bool) (n : ℕ) → lowest test n ≡ None → test n ≡ true → lowest test (suc n) ≡ Some n
unfolding lowest
step_here test n below here = rw (below, here) refl

step_found : (test : ℕ → Bool) (n k : ℕ) → lowest test n ≡ Some k → lowest test (suc n) ≡ Some k
unfolding lowest
step_found test n k below = rw below refl

pub lowest_none : (test : ℕ → Bool) → lowest test 0 ≡ None
unfolding lowest
lowest_none test = refl

pub lowest_more : (test : ℕ → Bool) (n : ℕ) → lowest test n ≡ None → test n ≡ false → lowest test (n + 1) ≡ None
lowest_more test n below here = rw add-one (step_none test n below here)

-- a number that passes, with none below it, is the lowest of more
found_among : (test : ℕ → Bool) (k n : ℕ) → lowest test k ≡ None → test k ≡ true → (k ≡ n) ⊎ (k < n) → lowest test (suc n) ≡ Some k
found_among test k n below here (inl e) = rw (← e) (step_here test k below here)
found_among test k zero below here (inr lt) = absurd (omega arith)
found_among test k (suc n) below here (inr lt) = step_found test (suc n) k (found_among test k n below here (eq-or-lt_of_le (omega arith)))

pub lowest_found : (test : ℕ → Bool) (k n : ℕ) → lowest test k ≡ None → test k ≡ true → k < n → lowest test n ≡ Some k
lowest_found test k zero below here lt = absurd (omega arith)
lowest_found test k (suc n) below here lt = found_among test k n below here (eq-or-lt_of_le (omega arith))

none_more : (test : ℕ → Bool) (n : ℕ) → IsNoneBelow test n → test n ≡ false → IsNoneBelow test (suc n)
none_more test n below here j lt = elim (cases_eq j n) [ inl e ↦ rw e here | inr ne ↦ below j (omega arith) ]

-- what one number more finds, by what is found below it
none_step : (test : ℕ → Bool) (n : ℕ) (o : Option ℕ) (b : Bool) → lowest test n ≡ o → test n ≡ b → (lowest test n ≡ None → IsNoneBelow test n) → lowest test (suc n) ≡ None → IsNoneBelow test (suc n)
none_step test n (Some k) b below here rest e = let found = step_found test n k below in absurd (cc)
none_step test n None true below here rest e = let found = step_here test n below here in absurd (cc)
none_step test n None false below here rest e = none_more test n (rest below) here

-- where nothing is found, nothing passes; and the other way round
pub none_passes : (test : ℕ → Bool) (n : ℕ) → lowest test n ≡ None → IsNoneBelow test n
none_passes test zero e = λ j lt. absurd (omega arith)
none_passes test (suc n) e = none_step test n (lowest test n) (test n) refl refl (none_passes test n) e

pub none_found : (test : ℕ → Bool) (n : ℕ) → IsNoneBelow test n → lowest test n ≡ None
none_found test zero none = lowest_none test
none_found test (suc n) none = step_none test n (none_found test n (λ j lt. none j (omega arith))) (none n (omega arith))

is_step : (test : ℕ → Bool) (n k : ℕ) (o : Option ℕ) (b : Bool) → lowest test n ≡ o → test n ≡ b → ((j : ℕ) → lowest test n ≡ Some j → IsLowest test n j) → lowest test (suc n) ≡ Some k → IsLowest test (suc n) k
is_step test n k (Some j) b below here rest e =
    let found = step_found test n j below in
    let same : j ≡ k = cc in
    let is = rest j below in
    rw (← same) (record { within = omega (arith, is.within); passes = is.passes; none_below = is.none_below })
is_step test n k None true below here rest e =
    let found = step_here test n below here in
    let same : n ≡ k = cc in
    rw (← same) (record { within = omega arith; passes = here; none_below = none_passes test n below })
is_step test n k None false below here rest e = let found = step_none test n below here in absurd (cc)

-- what is found is the lowest
pub is_lowest : (test : ℕ → Bool) (n k : ℕ) → lowest test n ≡ Some k → IsLowest test n k
is_lowest test zero k e = let none = lowest_none test in absurd (cc)
is_lowest test (suc n) k e = is_step test n k (lowest test n) (test n) refl refl (is_lowest test n) e
