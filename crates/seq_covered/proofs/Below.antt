-- How many numbers below a bound pass a test.
use Rattle.std.proofs.Common.{◌≡◌, ◌⊎◌, inl, inr, ℕ, zero, suc, ◌+◌, ◌<◌, ◌≤◌, Bool, true, false, cond, refl, sym, ap, ◌∙◌, arith, add-one}
use Rattle.std.proofs.lemmas.Bool.{cases_eq, false_from_ne_true, false≢true}
use Rattle.seq_schedule.specs.Below.{count_below}
use Rattle.seq_schedule.proofs.Below.{count_none, count_more}
use Rattle.seq_covered.proofs.Counts.{count_found}

more : (test : ℕ → Bool) (n : ℕ) → count_below test (suc n) ≡ count_below test n + cond (test n) 1 0
more test n = ap (count_below test) (sym (add-one n)) ∙ count_more test n

-- where none is counted none passes, and the other way round
pub none_counted : (test : ℕ → Bool) (n : ℕ) → count_below test n ≡ 0 → (k : ℕ) → k < n → test k ≡ false
none_counted test n none k lt = false_from_ne_true _ (λ t. let some = count_found test n k lt t in let no : ⊥ = omega (arith, some, none) in no)

pub none_passing : (test : ℕ → Bool) (n : ℕ) → ((k : ℕ) → k < n → test k ≡ false) → count_below test n ≡ 0
none_passing test zero none = count_none test
none_passing test (suc n) none =
    let below = none_passing test n (λ k lt. none k (omega (arith, lt))) in
    let last : cond {A = ℕ} (test n) 1 0 ≡ 0 = ap (λ (b : Bool). cond {A = ℕ} b 1 0) (none n (omega arith)) in
    omega (arith, more test n, below, last)

-- two tests, of which the second passes whatever the first does
module _ (f g : ℕ → Bool) where
  one : (a b : Bool) → (a ≡ true → b ≡ true) → cond {A = ℕ} a 1 0 ≤ cond {A = ℕ} b 1 0
  one true true weaker = omega arith
  one true false weaker = absurd (false≢true (weaker refl))
  one false true weaker = omega arith
  one false false weaker = omega arith

  pub no_more : (n : ℕ) → ((k : ℕ) → k < n → f k ≡ true → g k ≡ true) → count_below f n ≤ count_below g n
  no_more zero weaker = omega (arith, count_none f)
  no_more (suc n) weaker =
      let below = no_more n (λ k lt. weaker k (omega (arith, lt))) in
      let last = one (f n) (g n) (weaker n (omega arith)) in
      omega (arith, more f n, more g n, below, last)

  -- and passes once more
  pub fewer : (n k : ℕ) → k < n → ((j : ℕ) → j < n → f j ≡ true → g j ≡ true) → f k ≡ false → g k ≡ true → suc (count_below f n) ≤ count_below g n
  fewer zero k lt weaker out in_g = absurd (let no : ⊥ = omega (arith, lt) in no)
  fewer (suc n) k lt weaker out in_g = go (cases_eq k n) (λ l. fewer n k l (λ j below. weaker j (omega (arith, below))) out in_g)
    where
      go : (k ≡ n) ⊎ (k ≡ n → ⊥) → (k < n → suc (count_below f n) ≤ count_below g n) → suc (count_below f (suc n)) ≤ count_below g (suc n)
      go (inl e) before =
          let below = no_more n (λ j l. weaker j (omega (arith, l))) in
          let none : cond {A = ℕ} (f n) 1 0 ≡ 0 = ap (λ (b : Bool). cond {A = ℕ} b 1 0) (ap f (sym e) ∙ out) in
          let some : cond {A = ℕ} (g n) 1 0 ≡ 1 = ap (λ (b : Bool). cond {A = ℕ} b 1 0) (ap g (sym e) ∙ in_g) in
          omega (arith, more f n, more g n, below, none, some)
      go (inr ne) before =
          let below = before (omega (arith, lt, ne)) in
          let last = one (f n) (g n) (weaker n (omega arith)) in
          omega (arith, more f n, more g n, below, last)

-- two that pass are counted twice
pub two_found : (test : ℕ → Bool) (n j k : ℕ) → j < n → k < n → (j ≡ k → ⊥) → test j ≡ true → test k ≡ true → 2 ≤ count_below test n
two_found test zero j k a b ne s t = absurd (let no : ⊥ = omega (arith, a) in no)
two_found test (suc n) j k a b ne s t = go (cases_eq j n) (cases_eq k n) (λ l l'. two_found test n j k l l' ne s t)
  where
    last : (i : ℕ) → i ≡ n → test i ≡ true → cond {A = ℕ} (test n) 1 0 ≡ 1
    last i e u = ap (λ (b : Bool). cond {A = ℕ} b 1 0) (ap test (sym e) ∙ u)

    go : (j ≡ n) ⊎ (j ≡ n → ⊥) → (k ≡ n) ⊎ (k ≡ n → ⊥) → (j < n → k < n → 2 ≤ count_below test n) → 2 ≤ count_below test (suc n)
    go (inl e) (inl h) before = absurd (ne (e ∙ sym h))
    go (inl e) (inr h) before = let rest = count_found test n k (omega (arith, b, h)) t in let here = last j e s in omega (arith, more test n, rest, here)
    go (inr e) (inl h) before = let rest = count_found test n j (omega (arith, a, e)) s in let here = last k h t in omega (arith, more test n, rest, here)
    go (inr e) (inr h) before = let rest = before (omega (arith, a, e)) (omega (arith, b, h)) in omega (arith, more test n, rest)
