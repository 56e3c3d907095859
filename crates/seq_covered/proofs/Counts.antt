-- What the events alone say: who is failed is out, first counts begin anew, and who has reached so many.
use Rattle.std.proofs.Common.{◌≡◌, ◌⊎◌, inl, inr, ℕ, zero, suc, ◌+◌, ◌<◌, ◌≤◌, Bool, true, false, not, ◌&&◌, ◌||◌, ◌==◌, nat_le, cond, if◌then◌else◌, List, [], ◌∷◌, count_by, refl, sym, ap, ◌∙◌, arith, add-one}
use Rattle.std.proofs.lemmas.Bool.{cases_eq, and_parts, and_from, and_left, and_right, or_cases, or_from, or_left, or_right, not-true, not_from_true, not_from_false, eq-eqb, ne_eqb, leb-true, le-leb, false_from_ne_true, true_from_ne_false, true≢false, false≢true}
use Rattle.std.proofs.lemmas.List.Sums.{sum_by-cons}
use Rattle.seq_words.specs.declared.kinds.Element.{Element}
use Rattle.seq_words.specs.declared.events.Event.{Event}
use Rattle.seq_words.specs.declared.events.Event.TheVariants as event
use Rattle.seq_words.specs.declared.description.MachineDesc.{MachineDesc}
use Rattle.seq_stands.specs.CountLeft as operations
use Rattle.seq_schedule.specs.Below.{each_below, some_below, count_below}
use Rattle.seq_schedule.specs.Outs.{processor, memory, io, fails, repairs, upsets, is_turn_of, disturbs, is_failed, is_mended, undisturbed, first_count, someone_works, each_has, have_reached, is_out, are_out_together}
use Rattle.seq_schedule.proofs.Below.{some_none, some_more, count_more, each_fails}

-- ---- numbers below a bound

each_at : (test : ℕ → Bool) (n k : ℕ) → k < n → each_below test n ≡ true → test k ≡ true
each_at test n k lt all = true_from_ne_false _ (λ f. false≢true (sym (each_fails test k n lt f) ∙ all))

some_zero : (test : ℕ → Bool) (n : ℕ) → ((k : ℕ) → k < n → test k ≡ false) → some_below test n ≡ false
some_zero test zero none = some_none test
some_zero test (suc n) none = ap (some_below test) (sym (add-one n)) ∙ some_more test n (some_zero test n (λ k lt. none k (omega (arith, lt)))) (none n (omega arith))

pub count_found : (test : ℕ → Bool) (n k : ℕ) → k < n → test k ≡ true → 1 ≤ count_below test n
count_found test zero k lt here = absurd (let no : ⊥ = omega (arith, lt) in no)
count_found test (suc n) k lt here = go (cases_eq k n) (λ below. count_found test n k below here)
  where
    more : count_below test (suc n) ≡ count_below test n + cond (test n) 1 0
    more = ap (count_below test) (sym (add-one n)) ∙ count_more test n

    go : (k ≡ n) ⊎ (k ≡ n → ⊥) → (k < n → 1 ≤ count_below test n) → 1 ≤ count_below test (suc n)
    go (inl e) earlier = let last : cond {A = ℕ} (test n) 1 0 ≡ 1 = ap (λ (b : Bool). cond {A = ℕ} b 1 0) (ap test (sym e) ∙ here) in omega (arith, more, last)
    go (inr ne) earlier = let before = earlier (omega (arith, lt, ne)) in omega (arith, more, before)

-- ---- who is failed

-- what is failed isn't mended, and so it is out
pub failed_not_mended : (e : Element) (xs : List Event) → is_failed e xs ≡ true → is_mended e xs ≡ false
failed_not_mended e [] failed = absurd (false≢true failed)
failed_not_mended e (x ∷ xs) failed = go (or_cases (fails e x) (not (repairs e x) && is_failed e xs) failed) (failed_not_mended e xs)
  where
    go : (fails e x ≡ true) ⊎ ((not (repairs e x) && is_failed e xs) ≡ true) → (is_failed e xs ≡ true → is_mended e xs ≡ false) → is_mended e (x ∷ xs) ≡ false
    go (inl now) earlier = and_left _ _ (not_from_true (fails e x || upsets e x) (or_left _ _ now))
    go (inr before) earlier =
        let parts = and_parts (not (repairs e x)) (is_failed e xs) before in
        and_right _ _ (or_from _ _ (and_left _ _ (not-true (repairs e x) parts.0)) (earlier parts.1))

pub failed_is_out : (d : MachineDesc) (e : Element) (xs : List Event) → is_failed e xs ≡ true → is_out d xs e ≡ true
failed_is_out d e [] failed = absurd (false≢true failed)
failed_is_out d e (x ∷ xs) failed = go (or_cases (fails e x) (not (repairs e x) && is_failed e xs) failed) (failed_is_out d e xs)
  where
    go : (fails e x ≡ true) ⊎ ((not (repairs e x) && is_failed e xs) ≡ true) → (is_failed e xs ≡ true → is_out d xs e ≡ true) → is_out d (x ∷ xs) e ≡ true
    go (inl now) earlier = or_left _ _ (or_left _ _ now)
    go (inr before) earlier = or_right _ _ (and_from _ _ (earlier (and_parts (not (repairs e x)) (is_failed e xs) before).1) (not_from_false _ (and_left _ _ (failed_not_mended e (x ∷ xs) failed))))

-- while a memory is out no processor is, where they aren't out together
pub alone_out : (d : MachineDesc) (xs : List Event) (i p : ℕ) → are_out_together d xs ≡ false → i < d.memories → is_out d xs (memory i) ≡ true → p < d.processors → is_out d xs (processor p) ≡ false
alone_out d xs i p apart inside out there = false_from_ne_true _ (λ t. true≢false (sym (or_right _ _ (and_from _ _
    (le-leb 1 _ (count_found (λ k. is_out d xs (memory k)) d.memories i inside out))
    (le-leb 1 _ (count_found (λ k. is_out d xs (processor k)) d.processors p there t)))) ∙ apart))

-- ---- what disturbs

pub calm_fails : (e : Element) (x : Event) → disturbs x ≡ false → fails e x ≡ false
calm_fails e (event.Processor p) calm = refl
calm_fails e (event.Io i) calm = refl
calm_fails e (event.Input l byte) calm = refl
calm_fails e (event.Close l) calm = refl
calm_fails e (event.Fail f) calm = absurd (true≢false calm)
calm_fails e (event.Repair f) calm = refl
calm_fails e (event.Upset p half reg mask) calm = refl
calm_fails e (event.Hangup l) calm = refl

pub calm_repairs : (e : Element) (x : Event) → disturbs x ≡ false → repairs e x ≡ false
calm_repairs e (event.Processor p) calm = refl
calm_repairs e (event.Io i) calm = refl
calm_repairs e (event.Input l byte) calm = refl
calm_repairs e (event.Close l) calm = refl
calm_repairs e (event.Fail f) calm = refl
calm_repairs e (event.Repair f) calm = absurd (true≢false calm)
calm_repairs e (event.Upset p half reg mask) calm = refl
calm_repairs e (event.Hangup l) calm = refl

-- ---- first counts

pub count_anew : (x : Event) (xs : List Event) (e : Element) → disturbs x ≡ true → first_count (x ∷ xs) e ≡ 0
count_anew x xs e t = ap (λ (b : Bool). count_by (is_turn_of e) (if b then [] else x ∷ undisturbed xs)) t

pub count_on : (x : Event) (xs : List Event) (e : Element) → disturbs x ≡ false → first_count (x ∷ xs) e ≡ cond (is_turn_of e x) 1 0 + first_count xs e
count_on x xs e f = ap (λ (b : Bool). count_by (is_turn_of e) (if b then [] else x ∷ undisturbed xs)) f ∙ sum_by-cons (λ (y : Event). cond (is_turn_of e y) 1 0) x (undisturbed xs)

pub at_most_one : (b : Bool) → cond b 1 0 ≤ 1
at_most_one true = omega arith
at_most_one false = omega arith

-- a turn of a processor, told in two ways
same_either : (a b : ℕ) → (a == b) ≡ (b == a)
same_either a b = go (cases_eq a b)
  where
    go : (a ≡ b) ⊎ (a ≡ b → ⊥) → (a == b) ≡ (b == a)
    go (inl e) = eq-eqb a b e ∙ sym (eq-eqb b a (sym e))
    go (inr ne) = ne_eqb a b ne ∙ sym (ne_eqb b a (λ e. ne (sym e)))

pub same_turn : (p : ℕ) (x : Event) → operations.is_turn_of p x ≡ is_turn_of (processor p) x
same_turn p (event.Processor q) = same_either q.0 p
same_turn p (event.Io i) = refl
same_turn p (event.Input l byte) = refl
same_turn p (event.Close l) = refl
same_turn p (event.Fail f) = refl
same_turn p (event.Repair f) = refl
same_turn p (event.Upset q half reg mask) = refl
same_turn p (event.Hangup l) = refl

-- ---- who has reached so many

module _ (d : MachineDesc) (xs : List Event) (count : Element → ℕ) (n : ℕ) (all : have_reached d xs count n ≡ true) where
  parts : (each_below (λ p. is_failed (processor p) xs || nat_le n (count (processor p))) d.processors ≡ true) × (each_below (λ i. is_failed (io i) xs || nat_le n (count (io i))) d.ios ≡ true)
  parts = and_parts _ _ (and_parts (someone_works d xs) (each_has d xs count n) all).1

  -- a processor that isn't failed has
  pub reached : (p : ℕ) → p < d.processors → is_failed (processor p) xs ≡ false → n ≤ count (processor p)
  reached p there up = go (or_cases (is_failed (processor p) xs) (nat_le n (count (processor p))) (each_at (λ k. is_failed (processor k) xs || nat_le n (count (processor k))) d.processors p there parts.0))
    where
      go : (is_failed (processor p) xs ≡ true) ⊎ (nat_le n (count (processor p)) ≡ true) → n ≤ count (processor p)
      go (inl failed) = absurd (true≢false (sym failed ∙ up))
      go (inr enough) = leb-true n (count (processor p)) enough

  -- nobody has more than none where nobody has any
  nobody : (failed : ℕ → Bool) (has : ℕ → ℕ) (k : ℕ) → 0 < n → ((j : ℕ) → has j ≡ 0) → each_below (λ j. failed j || nat_le n (has j)) k ≡ true → some_below (λ j. not (failed j)) k ≡ false
  nobody failed has k some none every = some_zero (λ j. not (failed j)) k (λ j lt. go j (or_cases (failed j) (nat_le n (has j)) (each_at (λ i. failed i || nat_le n (has i)) k j lt every)))
    where
      go : (j : ℕ) → (failed j ≡ true) ⊎ (nat_le n (has j) ≡ true) → not (failed j) ≡ false
      go j (inl down) = not_from_true (failed j) down
      go j (inr enough) = absurd (let few = leb-true n (has j) enough in let zero = none j in let c : ⊥ = omega (arith, few, zero, some) in c)

  pub none_reached : 0 < n → ((e : Element) → count e ≡ 0) → ⊥
  none_reached some none = true≢false (sym (and_parts (someone_works d xs) (each_has d xs count n) all).0 ∙ or_from _ _
      (nobody (λ p. is_failed (processor p) xs) (λ p. count (processor p)) d.processors some (λ p. none (processor p)) parts.0)
      (nobody (λ i. is_failed (io i) xs) (λ i. count (io i)) d.ios some (λ i. none (io i)) parts.1))

-- the last event before an out ends disturbs nothing
pub reached_calm : (d : MachineDesc) (x : Event) (xs : List Event) (n : ℕ) → 0 < n → have_reached d (x ∷ xs) (first_count (x ∷ xs)) n ≡ true → disturbs x ≡ false
reached_calm d x xs n some all = false_from_ne_true _ (λ t. none_reached d (x ∷ xs) (first_count (x ∷ xs)) n all some (λ e. count_anew x xs e t))
