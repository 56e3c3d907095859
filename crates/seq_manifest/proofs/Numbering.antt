-- Lines that have one owner each and leave no gap are numbered from 0 on.
use Rattle.std.proofs.Common.{◌≡◌, ◌⊎◌, ℕ, zero, suc, ◌+◌, ◌-◌, ◌<◌, ◌≤◌, min, Bool, true, false, cond, ltb, List, [], ◌∷◌, length, inl, inr, refl, sym, ap, ◌∙◌, arith, count_by}
use Rattle.std.specs.List.{list_any, filter, range_with_len, sum_by, AllByRecursion}
use Rattle.std.specs.Prelude.{count_ones}
use Rattle.std.proofs.lemmas.Bool.{cases_lt, lt-ltb, le-ltb, or_cases, false≢true}
use Rattle.std.proofs.lemmas.List.Sums.{sum_by-cons}
use Rattle.seq_words.specs.Masks.{has_bit}
use Rattle.seq_words.specs.declared.description.ProcessDesc.{ProcessDesc}
use Rattle.seq_manifest.specs.Drafts.{numbers_in, IsProcessDraft}
use Rattle.seq_manifest.proofs.Ones.{ones-numbers_in}
use Rattle.seq_manifest.proofs.Steps.{count_zero, no_bit_above}

abbrev pub owners : List ProcessDesc → ℕ → ℕ
owners qs l = count_by (λ q. has_bit q.lines l) qs

-- ---- the bits of all masks, counted line by line
length-filter : (test : ℕ → Bool) (lo n : ℕ) → length (filter test (range_with_len lo (suc n))) ≡ cond (test lo) 1 0 + length (filter test (range_with_len (lo + 1) n))
length-filter test lo n = either (test lo) (filter test (range_with_len (lo + 1) n))
  where
    either : (b : Bool) (xs : List ℕ) → length (cond b (lo ∷ xs) xs) ≡ cond b 1 0 + length xs
    either true xs = omega arith
    either false xs = omega arith

sum-both : {A : Type 0} (f g h : A → ℕ) → ((x : A) → f x ≡ g x + h x) → (xs : List A) → sum_by f xs ≡ sum_by g xs + sum_by h xs
sum-both f g h e [] = refl
sum-both f g h e (x ∷ xs) = let rest = sum-both f g h e xs in omega (arith, sum_by-cons f x xs, sum_by-cons g x xs, sum_by-cons h x xs, e x, rest)

sum-zero : {A : Type 0} (xs : List A) → sum_by (λ x. 0) xs ≡ 0
sum-zero [] = refl
sum-zero (x ∷ xs) = sum_by-cons (λ y. 0) x xs ∙ let rest = sum-zero xs in omega (arith, rest)

bits_by_line : (qs : List ProcessDesc) (lo n : ℕ) → sum_by (λ q. length (filter (λ k. has_bit q.lines k) (range_with_len lo n))) qs ≡ sum_by (owners qs) (range_with_len lo n)
bits_by_line qs lo zero = sum-zero qs
bits_by_line qs lo (suc n) =
    sum-both (λ q. length (filter (λ k. has_bit q.lines k) (range_with_len lo (suc n)))) (λ q. cond (has_bit q.lines lo) 1 0) (λ q. length (filter (λ k. has_bit q.lines k) (range_with_len (lo + 1) n))) (λ q. length-filter (λ k. has_bit q.lines k) lo n) qs
    ∙ ap (λ s. owners qs lo + s) (bits_by_line qs (lo + 1) n) ∙ sym (sum_by-cons (owners qs) lo (range_with_len (lo + 1) n))

sum-ones : (segments : ℕ) (qs : List ProcessDesc) → AllByRecursion (IsProcessDraft segments) qs → sum_by (λ q. count_ones q.lines) qs ≡ sum_by (λ q. length (numbers_in q.lines)) qs
sum-ones segments [] h = refl
sum-ones segments (q ∷ qs) h = sum_by-cons (λ q. count_ones q.lines) q qs ∙ let rest = sum-ones segments qs h.1 in let e = ones-numbers_in q.lines h.0.line_mask in omega (arith, rest, e, sum_by-cons (λ q. length (numbers_in q.lines)) q qs)

pub line_count-is : (segments : ℕ) (qs : List ProcessDesc) → AllByRecursion (IsProcessDraft segments) qs → sum_by (λ q. count_ones q.lines) qs ≡ sum_by (owners qs) (range_with_len 0 16)
unfolding numbers_in
line_count-is segments qs h = sum-ones segments qs h ∙ bits_by_line qs 0 16

each_once : (f : ℕ → ℕ) (lo n : ℕ) → ((l : ℕ) → f l ≤ 1) → sum_by f (range_with_len lo n) ≤ n
each_once f lo zero once = omega arith
each_once f lo (suc n) once = let rest = each_once f (lo + 1) n once in omega (arith, sum_by-cons f lo (range_with_len (lo + 1) n), once lo, rest)

-- sixteen lines at most, where no line has two owners
pub lines_few : (segments : ℕ) (qs : List ProcessDesc) → AllByRecursion (IsProcessDraft segments) qs → ((l : ℕ) → owners qs l ≤ 1) → sum_by (λ q. count_ones q.lines) qs ≤ 16
lines_few segments qs h apart = omega (arith, line_count-is segments qs h, each_once (owners qs) 0 16 apart)

-- ---- one owner at most
pub some_owner : (qs : List ProcessDesc) (l : ℕ) → list_any (λ q. has_bit q.lines l) qs ≡ true → 1 ≤ owners qs l
some_owner [] l e = absurd (false≢true e)
some_owner (q ∷ qs) l e = elim (or_cases (has_bit q.lines l) (list_any (λ q. has_bit q.lines l) qs) e) [
  | inl here ↦ let c = sum_by-cons (λ q. cond (has_bit q.lines l) 1 0) q qs in omega (arith, c, ap (λ b. cond {A = ℕ} b 1 0) here)
  | inr later ↦ let c = sum_by-cons (λ q. cond (has_bit q.lines l) 1 0) q qs in let rest = some_owner qs l later in omega (arith, c, rest)
]

owners-cond : (qs : List ProcessDesc) (l : ℕ) → owners qs l ≤ 1 → owners qs l ≡ cond (list_any (λ q. has_bit q.lines l) qs) 1 0
owners-cond qs l le = either (list_any (λ q. has_bit q.lines l) qs) refl
  where
    either : (b : Bool) → list_any (λ q. has_bit q.lines l) qs ≡ b → owners qs l ≡ cond b 1 0
    either true e = let ge = some_owner qs l e in omega (arith, ge, le)
    either false e = count_zero (λ q. has_bit q.lines l) qs e

-- ---- a test that holds up to some number, and no further
prefix : (own : ℕ → Bool) (n : ℕ) → ((l above : ℕ) → above < n → l < above → own above ≡ true → own l ≡ true) → (m : ℕ) × (m ≤ n) × ((l : ℕ) → l < n → own l ≡ ltb l m)
prefix own zero down = (0, omega arith, λ l lt. absurd (omega arith))
prefix own (suc n) down =
    let w = prefix own n (λ l above lt. down l above (omega arith)) in
    grow w.0 w.1 w.2 (own n) refl
  where
    grow : (m : ℕ) → m ≤ n → ((l : ℕ) → l < n → own l ≡ ltb l m) → (b : Bool) → own n ≡ b → (m : ℕ) × (m ≤ suc n) × ((l : ℕ) → l < suc n → own l ≡ ltb l m)
    grow m le same true e = (suc n, omega arith, λ l lt. upto l (cases_lt l n) lt)
      where
        upto : (l : ℕ) → (l < n) ⊎ (n ≤ l) → l < suc n → own l ≡ ltb l (suc n)
        upto l (inl below) lt = down l n (omega arith) below e ∙ sym (lt-ltb _ _ lt)
        upto l (inr ge) lt = let here : l ≡ n = omega arith in ap own here ∙ e ∙ sym (lt-ltb _ _ lt)
    grow m le same false e = (m, omega arith, λ l lt. upto l (cases_lt l n) lt)
      where
        upto : (l : ℕ) → (l < n) ⊎ (n ≤ l) → l < suc n → own l ≡ ltb l m
        upto l (inl below) lt = same l below
        upto l (inr ge) lt = let here : l ≡ n = omega arith in ap own here ∙ e ∙ sym (le-ltb _ _ (omega arith))

sum-prefix : (f : ℕ → ℕ) (m lo n : ℕ) → ((l : ℕ) → l < lo + n → f l ≡ cond (ltb l m) 1 0) → sum_by f (range_with_len lo n) ≡ min (m - lo) n
sum-prefix f m lo zero e = omega arith
sum-prefix f m lo (suc n) e =
    let rest = sum-prefix f m (lo + 1) n (λ l lt. e l (omega arith)) in
    let head = e lo (omega arith) in
    sum_by-cons f lo (range_with_len (lo + 1) n) ∙ elim (cases_lt lo m) [
      | inl lt ↦ let one : f lo ≡ 1 = head ∙ (let t : ltb lo m ≡ true = lt-ltb _ _ lt in rw t refl) in omega (arith, one, rest, lt)
      | inr le ↦ let none : f lo ≡ 0 = head ∙ (let t : ltb lo m ≡ false = le-ltb _ _ le in rw t refl) in omega (arith, none, rest, le)
    ]

no_owner_above : (segments : ℕ) (qs : List ProcessDesc) (l : ℕ) → AllByRecursion (IsProcessDraft segments) qs → 16 ≤ l → owners qs l ≡ 0
no_owner_above segments [] l h le = refl
no_owner_above segments (q ∷ qs) l h le =
    let none = no_bit_above q.lines l h.0.line_mask le in
    let rest = no_owner_above segments qs l h.1 le in
    sum_by-cons (λ q. cond (has_bit q.lines l) 1 0) q qs ∙ rw none (omega (arith, rest))

pub numbered : (segments : ℕ) (qs : List ProcessDesc) → AllByRecursion (IsProcessDraft segments) qs → ((l : ℕ) → owners qs l ≤ 1)
    → ((l above : ℕ) → above < 16 → l < above → list_any (λ q. has_bit q.lines above) qs ≡ true → list_any (λ q. has_bit q.lines l) qs ≡ true)
    → (l : ℕ) → owners qs l ≡ cond (ltb l (sum_by (λ q. count_ones q.lines) qs)) 1 0
numbered segments qs h apart down l =
    let w = prefix (λ l. list_any (λ q. has_bit q.lines l) qs) 16 down in
    let each : (l : ℕ) → l < 16 → owners qs l ≡ cond (ltb l w.0) 1 0 = λ l lt. owners-cond qs l (apart l) ∙ ap (λ b. cond b 1 0) (w.2 l lt) in
    let total : sum_by (owners qs) (range_with_len 0 16) ≡ min (w.0 - 0) 16 = sum-prefix (owners qs) w.0 0 16 (λ l lt. each l (omega arith)) in
    let count : sum_by (λ q. count_ones q.lines) qs ≡ w.0 = line_count-is segments qs h ∙ total ∙ least w.0 w.1 in
    at l w.0 w.1 each (cases_lt l 16) ∙ ap (λ n. cond (ltb l n) 1 0) (sym count)
  where
    least : (m : ℕ) → m ≤ 16 → min (m - 0) 16 ≡ m
    least m le = omega arith

    at : (l m : ℕ) → m ≤ 16 → ((l : ℕ) → l < 16 → owners qs l ≡ cond (ltb l m) 1 0) → (l < 16) ⊎ (16 ≤ l) → owners qs l ≡ cond (ltb l m) 1 0
    at l m le each (inl lt) = each l lt
    at l m le each (inr ge) = let f : ltb l m ≡ false = le-ltb _ _ (omega arith) in no_owner_above segments qs l h ge ∙ rw f refl
