-- Tests of the numbers below a bound, found by going up.
use Rattle.std.proofs.Common.{◌≡◌, ℕ, zero, suc, ◌+◌, ◌<◌, ◌≤◌, ◌⊎◌, inl, inr, Bool, true, false, ◌&&◌, ◌||◌, cond, refl, sym, ap, ◌∙◌, arith, add-one}
use Rattle.std.proofs.lemmas.Bool.{cases_Bool, cases_eq, and_parts, and_from, and_right, and_left, or_left, or_right}
use Rattle.std.proofs.Math.Nat.{eq-or-lt_of_le}
use Rattle.seq_schedule.specs.Below.{each_below, some_below, count_below}

module _ (test : ℕ → Bool) where
  pub each_none : each_below test 0 ≡ true
  unfolding each_below
  each_none = refl

  pub some_none : some_below test 0 ≡ false
  unfolding some_below
  some_none = refl

  pub count_none : count_below test 0 ≡ 0
  unfolding count_below
  count_none = refl

  each_step : (n : ℕ) → each_below test (suc n) ≡ (each_below test n && test n)
  unfolding each_below
  each_step n = refl

  some_step : (n : ℕ) → some_below test (suc n) ≡ (some_below test n || test n)
  unfolding some_below
  some_step n = refl

  count_step : (n : ℕ) → count_below test (suc n) ≡ count_below test n + cond (test n) 1 0
  unfolding count_below
  count_step n = refl

  pub each_more : (n : ℕ) → each_below test n ≡ true → test n ≡ true → each_below test (n + 1) ≡ true
  each_more n below here = ap (each_below test) (add-one n) ∙ each_step n ∙ and_from _ _ below here

  pub some_more : (n : ℕ) → some_below test n ≡ false → test n ≡ false → some_below test (n + 1) ≡ false
  some_more n below here = ap (some_below test) (add-one n) ∙ some_step n ∙ (λ i. below i || here i)

  pub count_more : (n : ℕ) → count_below test (n + 1) ≡ count_below test n + cond (test n) 1 0
  count_more n = ap (count_below test) (add-one n) ∙ count_step n

  -- one that fails makes all fail, and one that passes is found
  pub each_fails : (k n : ℕ) → k < n → test k ≡ false → each_below test n ≡ false
  each_fails k zero lt here = absurd (let no : ⊥ = omega (arith, lt) in no)
  each_fails k (suc n) lt here = each_step n ∙ elim (cases_eq k n) [
    | inl same ↦ and_right (each_below test n) (test n) (ap test (sym same) ∙ here)
    | inr other ↦ and_left (each_below test n) (test n) (each_fails k n (omega (arith, lt, other)) here)
  ]

  pub some_found : (k n : ℕ) → k < n → test k ≡ true → some_below test n ≡ true
  some_found k zero lt here = absurd (let no : ⊥ = omega (arith, lt) in no)
  some_found k (suc n) lt here = some_step n ∙ elim (cases_eq k n) [
    | inl same ↦ or_right (some_below test n) (test n) (ap test (sym same) ∙ here)
    | inr other ↦ or_left (some_below test n) (test n) (some_found k n (omega (arith, lt, other)) here)
  ]

  pub count_few : (n : ℕ) → count_below test n ≤ n
  count_few zero = omega (arith, count_none)
  count_few (suc n) = omega (arith, count_step n, count_few n, one (test n))
    where
      one : (b : Bool) → cond b 1 0 ≤ 1
      one true = omega arith
      one false = omega arith

-- two tests that agree below n
module _ (f g : ℕ → Bool) where
  pub each_same : (n : ℕ) → ((k : ℕ) → k < n → f k ≡ g k) → each_below f n ≡ each_below g n
  each_same zero same = each_none f ∙ sym (each_none g)
  each_same (suc n) same = each_step f n ∙ (λ i. each_same n (λ k lt. same k (omega (arith, lt))) i && same n (omega arith) i) ∙ sym (each_step g n)

  pub some_same : (n : ℕ) → ((k : ℕ) → k < n → f k ≡ g k) → some_below f n ≡ some_below g n
  some_same zero same = some_none f ∙ sym (some_none g)
  some_same (suc n) same = some_step f n ∙ (λ i. some_same n (λ k lt. same k (omega (arith, lt))) i || same n (omega arith) i) ∙ sym (some_step g n)

  pub count_same : (n : ℕ) → ((k : ℕ) → k < n → f k ≡ g k) → count_below f n ≡ count_below g n
  count_same zero same = count_none f ∙ sym (count_none g)
  count_same (suc n) same = count_step f n ∙ (λ i. count_same n (λ k lt. same k (omega (arith, lt))) i + cond (same n (omega arith) i) 1 0) ∙ sym (count_step g n)

  -- what passes the one passes the other
  pub each_weaker : (n : ℕ) → ((k : ℕ) → f k ≡ true → g k ≡ true) → each_below f n ≡ true → each_below g n ≡ true
  each_weaker zero weaker all = each_none g
  each_weaker (suc n) weaker all =
      let parts = and_parts (each_below f n) (f n) (sym (each_step f n) ∙ all) in
      each_step g n ∙ and_from _ _ (each_weaker n weaker parts.0) (weaker n parts.1)

-- where none passes, none is counted
pub count_zero : (test : ℕ → Bool) (n : ℕ) → ((k : ℕ) → test k ≡ false) → count_below test n ≡ 0
count_zero test zero none = count_none test
count_zero test (suc n) none = omega (arith, count_step test n, count_zero test n none, ap (λ (b : Bool). cond {A = ℕ} b 1 0) (none n))
