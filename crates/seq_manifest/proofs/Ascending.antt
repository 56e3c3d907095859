-- An ascending list is the numbers of its mask.
use Rattle.std.proofs.Common.{◌≡◌, ℕ, zero, suc, ◌+◌, ◌<◌, ◌≤◌, Bool, true, false, ◌||◌, cond, eqb, List, [], ◌∷◌, inl, inr, refl, sym, ap, subst, ◌∙◌, arith}
use Rattle.std.specs.List.{filter, range_with_len}
use Rattle.std.proofs.lemmas.Bool.{cases_lt, cases_eq, ltb-true, eq-eqb, ne_eqb, lt-ltb, and_parts, and_from, or_parts, false≢true}
use Rattle.seq_words.specs.Masks.{has_bit}
use Rattle.seq_manifest.specs.Drafts.{numbers_in}
use Rattle.seq_manifest.specs.Faults.{is_in, is_ascending}
use Rattle.seq_manifest.specs.Kept.{mask_of}
use Rattle.seq_manifest.proofs.Keeping.{has_bit-mask_of}

-- a filter looks at the test in its range alone
filter_same : (f g : ℕ → Bool) (lo n : ℕ) → ((k : ℕ) → lo ≤ k → k < lo + n → f k ≡ g k) → filter f (range_with_len lo n) ≡ filter g (range_with_len lo n)
filter_same f g lo zero same = refl
filter_same f g lo (suc n) same = head (f lo) (g lo) _ _ (same lo (omega arith) (omega arith)) (filter_same f g (lo + 1) n (λ k le lt. same k (omega arith) (omega arith)))
  where
    head : (a b : Bool) (xs ys : List ℕ) → a ≡ b → xs ≡ ys → cond a (lo ∷ xs) xs ≡ cond b (lo ∷ ys) ys
    head a b xs ys e f = cc

-- all of the list is at least low, and below high
abbrev pub IsFrom : ℕ → List ℕ → Type 0
IsFrom low [] = Unit {0}
IsFrom low (n ∷ ns) = low ≤ n

not_in : (ns : List ℕ) (low k : ℕ) → is_ascending ns ≡ true → IsFrom low ns → k < low → is_in ns k ≡ false
not_in [] low k asc from lt = refl
not_in (n ∷ []) low k asc from lt = let ne : eqb n k ≡ false = ne_eqb _ _ (λ e. absurd (omega (arith, e, from))) in rw ne refl
not_in (n ∷ m ∷ ns) low k asc from lt =
    let ne : eqb n k ≡ false = ne_eqb _ _ (λ e. absurd (omega (arith, e, from))) in
    let p = and_parts _ _ asc in
    let next : n < m = ltb-true _ _ p.0 in
    rw ne (not_in (m ∷ ns) low k p.1 (omega (arith, from)) lt)

tail_ascends : (n : ℕ) (ns : List ℕ) → is_ascending (n ∷ ns) ≡ true → (is_ascending ns ≡ true) × IsFrom (n + 1) ns
tail_ascends n [] e = (refl, tt)
tail_ascends n (m ∷ ns) e = let p = and_parts _ _ e in let lt : n < m = ltb-true _ _ p.0 in (p.1, omega arith)

higher : (ns : List ℕ) (low : ℕ) → is_ascending ns ≡ true → IsFrom low ns → is_in ns low ≡ false → IsFrom (low + 1) ns
higher [] low asc from out = tt
higher (n ∷ ns) low asc from out = elim (cases_eq n low) [
  | inl e ↦ absurd (false≢true (sym (or_parts _ _ out).0 ∙ eq-eqb _ _ e))
  | inr ne ↦ elim (cases_lt low n) [ inl lt ↦ omega arith | inr le ↦ absurd (ne (omega (arith, from))) ]
]

filter_is_in : (ns : List ℕ) (lo n : ℕ) → is_ascending ns ≡ true → IsFrom lo ns → ((k : ℕ) → is_in ns k ≡ true → k < lo + n) → filter (is_in ns) (range_with_len lo n) ≡ ns
filter_is_in [] lo n asc from below = none lo n
  where
    none : (lo n : ℕ) → filter (is_in []) (range_with_len lo n) ≡ []
    none lo zero = refl
    none lo (suc n) = none (lo + 1) n
filter_is_in (m ∷ ms) lo zero asc from below = absurd (let lt = below m (here (eqb m m) (eq-eqb m m refl)) in omega (arith, lt, from))
  where
    here : (b : Bool) → b ≡ true → (b || is_in ms m) ≡ true
    here true e = refl
    here false e = absurd (false≢true e)
filter_is_in (m ∷ ms) lo (suc n) asc from below = elim (cases_eq m lo) [
  | inl e ↦
      let is : is_in (m ∷ ms) lo ≡ true = here (eqb m lo) (eq-eqb _ _ e) in
      let t = tail_ascends m ms asc in
      let rest = filter_is_in ms (lo + 1) n t.0 (subst (λ k. IsFrom (k + 1) ms) e t.1) (λ k i. omega (arith, below k (there (eqb m k) (is_in ms k) i))) in
      let same = filter_same (is_in (m ∷ ms)) (is_in ms) (lo + 1) n (λ k le lt. let ne : eqb m k ≡ false = ne_eqb _ _ (λ z. absurd (omega (arith, z, e))) in rw ne refl) in
      rw is (ap (λ k. k ∷ filter (is_in (m ∷ ms)) (range_with_len (lo + 1) n)) (sym e) ∙ ap (λ xs. m ∷ xs) (same ∙ rest))
  | inr ne ↦
      let above : lo + 1 ≤ m = next lo m from ne in
      let out : is_in (m ∷ ms) lo ≡ false = not_in (m ∷ ms) (lo + 1) lo asc above (omega arith) in
      rw out (filter_is_in (m ∷ ms) (lo + 1) n asc above (λ k i. omega (arith, below k i)))
]
  where
    here : (b : Bool) → b ≡ true → (b || is_in ms lo) ≡ true
    here true e = refl
    here false e = absurd (false≢true e)

    there : (a b : Bool) → b ≡ true → (a || b) ≡ true
    there true b e = refl
    there false b e = e

    next : (a b : ℕ) → a ≤ b → (b ≡ a → ⊥) → a + 1 ≤ b
    next a b le ne = elim (cases_lt a b) [ inl lt ↦ omega arith | inr ge ↦ absurd (ne (omega arith)) ]

pub numbers_in-mask_of : (ns : List ℕ) → is_ascending ns ≡ true → ((k : ℕ) → is_in ns k ≡ true → k < 16) → numbers_in (mask_of ns) ≡ ns
unfolding numbers_in
numbers_in-mask_of ns asc below =
    filter_same (λ k. has_bit (mask_of ns) k) (is_in ns) 0 16 (λ k le lt. has_bit-mask_of ns k (omega arith))
    ∙ filter_is_in ns 0 16 asc (zero_from ns) (λ k i. omega (arith, below k i))
  where
    zero_from : (ns : List ℕ) → IsFrom 0 ns
    zero_from [] = tt
    zero_from (n ∷ ns) = omega arith

-- and the numbers of a mask ascend
range_ascends : (test : ℕ → Bool) (lo n : ℕ) → (is_ascending (filter test (range_with_len lo n)) ≡ true) × IsFrom lo (filter test (range_with_len lo n))
range_ascends test lo zero = (refl, tt)
range_ascends test lo (suc n) = let r = range_ascends test (lo + 1) n in grow (test lo) (filter test (range_with_len (lo + 1) n)) r.0 r.1
  where
    lower : (xs : List ℕ) → IsFrom (lo + 1) xs → IsFrom lo xs
    lower [] f = tt
    lower (x ∷ xs) f = omega (arith, f)

    grow : (b : Bool) (xs : List ℕ) → is_ascending xs ≡ true → IsFrom (lo + 1) xs → (is_ascending (cond b (lo ∷ xs) xs) ≡ true) × IsFrom lo (cond b (lo ∷ xs) xs)
    grow true [] e f = (refl, omega arith)
    grow true (x ∷ xs) e f = (and_from _ _ (lt-ltb _ _ (omega (arith, f))) e, omega arith)
    grow false xs e f = (e, lower xs f)

pub ascending-numbers_in : (mask : ℕ) → is_ascending (numbers_in mask) ≡ true
unfolding numbers_in
ascending-numbers_in mask = (range_ascends (λ k. has_bit mask k) 0 16).0
