-- The blocks of an outbox that are touched are those that lie one behind another from that of the first byte on.
use Rattle.std.proofs.Common.{◌≡◌, ℕ, zero, suc, ◌+◌, ◌-◌, ◌*◌, ◌/◌, ◌%◌, ◌<◌, ◌≤◌, Bool, true, false, ◌==◌, nat_lt, List, [], ◌∷◌, map, filter, inl, inr, arith, refl, sym, ◌∙◌, ap}
use Rattle.std.specs.List.{range_with_len, list_any}
use Rattle.std.proofs.lemmas.Bool.{cases_lt, cases_eq, cases_Bool, lt-ltb, le-ltb, eq-eqb, ne_eqb, or_right}
use Rattle.seq_kernel.specs.Outboxes.{after_place, is_touched, touched, touched_count, touched_block}

-- a test of some number of a range
pub any_at : (P : ℕ → Bool) (n a j : ℕ) → a ≤ j → j < a + n → P j ≡ true → list_any P (range_with_len a n) ≡ true
any_at P zero a j low high is = absurd (omega arith)
any_at P (suc n) a j low high is = elim (cases_eq a j) [
  | inl same ↦ rw (ap P same ∙ is) refl
  | inr other ↦ or_right (P a) (list_any P (range_with_len (a + 1) n)) (any_at P n (a + 1) j (omega arith) (omega arith) is)
]

any_none : (P : ℕ → Bool) (n a : ℕ) → ((j : ℕ) → a ≤ j → j < a + n → P j ≡ false) → list_any P (range_with_len a n) ≡ false
any_none P zero a none = refl
any_none P (suc n) a none =
    let here : P a ≡ false = none a (omega arith) (omega arith) in
    let rest : list_any P (range_with_len (a + 1) n) ≡ false = any_none P n (a + 1) (λ j low high. none j (omega arith) (omega arith)) in
    rw here rest

-- those of a range that pass a test for the numbers below a bound
filter_below : (P : ℕ → Bool) (f : ℕ → ℕ) (m n a : ℕ) → ((i : ℕ) → a ≤ i → i < a + n → P (f i) ≡ nat_lt i m) → m ≤ a + n → filter P (map f (range_with_len a n)) ≡ map f (range_with_len a (m - a))
filter_below P f m zero a each le =
    let none : m - a ≡ 0 = omega arith in
    rw none refl
filter_below P f m (suc n) a each le =
    let rest : filter P (map f (range_with_len (a + 1) n)) ≡ map f (range_with_len (a + 1) (m - (a + 1))) = filter_below P f m n (a + 1) (λ i low high. each i (omega arith) (omega arith)) (omega arith) in
    elim (cases_lt a m) [
      | inl below ↦
          let here : P (f a) ≡ true = each a (omega arith) (omega arith) ∙ lt-ltb a m below in
          let more : m - a ≡ suc (m - (a + 1)) = omega arith in
          rw (here, more) (ap (λ xs. f a ∷ xs) rest)
      | inr past ↦
          let here : P (f a) ≡ false = each a (omega arith) (omega arith) ∙ le-ltb a m past in
          let none : m - a ≡ 0 = omega arith in
          let gone : m - (a + 1) ≡ 0 = omega arith in
          rw (here, none) (rest ∙ ap (λ k. map f (range_with_len (a + 1) k)) gone)
    ]

-- where a place of the i-th block lies behind the first byte
first_place : (from : ℕ) → after_place from (32 * touched_block from 0 + from % 32) ≡ 0
first_place from = omega arith

next_place : (from i : ℕ) → 0 < i → i < 8 → after_place from (32 * touched_block from i + 0) ≡ 32 * i - from % 32
next_place from i some below = omega arith

later_place : (from i j : ℕ) → i < 8 → j < 32 → from % 32 ≤ 32 * i + j → after_place from (32 * touched_block from i + j) ≡ 32 * i + j - from % 32
later_place from i j below small past = omega arith

wrapped_place : (from i j : ℕ) → i < 8 → j < 32 → 32 * i + j < from % 32 → after_place from (32 * touched_block from i + j) ≡ 256 + (32 * i + j) - from % 32
wrapped_place from i j below small before = omega arith

-- the i-th block has a byte where it is below their number
count_some : (from count : ℕ) → 0 < count → touched_count from count ≡ (from % 32 + count - 1) / 32 + 1
count_some from count some =
    let other : (count == 0) ≡ false = ne_eqb count 0 (λ none. omega arith) in
    rw other refl

has_byte : (from count i : ℕ) → i < 8 → 0 < count → i < (from % 32 + count - 1) / 32 + 1 → is_touched from count (touched_block from i) ≡ true
unfolding is_touched
has_byte from count i below some low = elim (cases_eq i 0) [
  | inl first ↦
      let place : after_place from (32 * touched_block from i + from % 32) ≡ 0 = ap (λ k. after_place from (32 * touched_block from k + from % 32)) first ∙ first_place from in
      any_at (λ j. nat_lt (after_place from (32 * touched_block from i + j)) count) 32 0 (from % 32) (omega arith) (omega arith) (lt-ltb (after_place from (32 * touched_block from i + from % 32)) count (rw place some))
  | inr other ↦
      let place : after_place from (32 * touched_block from i + 0) ≡ 32 * i - from % 32 = next_place from i (omega arith) below in
      let within : 32 * i - from % 32 < count = omega arith in
      any_at (λ j. nat_lt (after_place from (32 * touched_block from i + j)) count) 32 0 0 (omega arith) (omega arith) (lt-ltb (after_place from (32 * touched_block from i + 0)) count (rw place within))
]

behind : (from count i j : ℕ) → i < 8 → count ≤ 64 → j < 32 → (0 < count → (from % 32 + count - 1) / 32 + 1 ≤ i) → count ≤ after_place from (32 * touched_block from i + j)
behind from count i j below few small high = elim (cases_lt (32 * i + j) (from % 32)) [
  | inl before ↦ rw (wrapped_place from i j below small before) (omega arith)
  | inr past ↦ elim (cases_eq count 0) [
    | inl none ↦ rw none (omega arith)
    | inr some ↦
        let more : (from % 32 + count - 1) / 32 + 1 ≤ i = high (omega arith) in
        let enough : count ≤ 32 * i + j - from % 32 = omega arith in
        rw (later_place from i j below small past) enough
  ]
]

has_none : (from count i : ℕ) → i < 8 → count ≤ 64 → (0 < count → (from % 32 + count - 1) / 32 + 1 ≤ i) → is_touched from count (touched_block from i) ≡ false
unfolding is_touched
has_none from count i below few high =
    any_none (λ j. nat_lt (after_place from (32 * touched_block from i + j)) count) 32 0
    (λ j _ small. le-ltb (after_place from (32 * touched_block from i + j)) count (behind from count i j below few small high))

touched_test : (from count i : ℕ) → i < 8 → count ≤ 64 → is_touched from count (touched_block from i) ≡ nat_lt i (touched_count from count)
touched_test from count i below few = elim (cases_eq count 0) [
  | inl none ↦
      let number : touched_count from count ≡ 0 = rw (eq-eqb count 0 none) refl in
      has_none from count i below few (λ some. absurd (omega arith)) ∙ sym (ap (nat_lt i) number ∙ le-ltb i 0 (omega arith))
  | inr other ↦
      let some : 0 < count = omega arith in
      let number : touched_count from count ≡ (from % 32 + count - 1) / 32 + 1 = count_some from count some in
      elim (cases_lt i ((from % 32 + count - 1) / 32 + 1)) [
        | inl low ↦ has_byte from count i below some low ∙ sym (ap (nat_lt i) number ∙ lt-ltb i ((from % 32 + count - 1) / 32 + 1) low)
        | inr high ↦ has_none from count i below few (λ _. high) ∙ sym (ap (nat_lt i) number ∙ le-ltb i ((from % 32 + count - 1) / 32 + 1) high)
      ]
]

few_touched : (from count : ℕ) → count ≤ 64 → touched_count from count ≤ 8
few_touched from count few = elim (cases_eq count 0) [
  | inl none ↦ (let number : touched_count from count ≡ 0 = rw (eq-eqb count 0 none) refl in omega arith)
  | inr other ↦ (let number : touched_count from count ≡ (from % 32 + count - 1) / 32 + 1 = count_some from count (omega arith) in omega arith)
]

-- the touched blocks, one behind another
pub touched_is : (from count : ℕ) → count ≤ 64 → touched from count ≡ map (touched_block from) (range_with_len 0 (touched_count from count))
unfolding touched
touched_is from count few =
    filter_below (is_touched from count) (touched_block from) (touched_count from count) 8 0 (λ i _ below. touched_test from count i below few) (few_touched from count few)
    ∙ ap (λ n. map (touched_block from) (range_with_len 0 n)) (omega arith)

-- what is in a list and passes a test is in what passes
pub any_filter : (p t : ℕ → Bool) (xs : List ℕ) → ((x : ℕ) → t x ≡ true → p x ≡ true) → list_any t xs ≡ true → list_any t (filter p xs) ≡ true
any_filter p t [] keeps is = is
any_filter p t (x ∷ xs) keeps is = elim (cases_Bool (t x)) [
  | inl here ↦ rw (keeps x here, here) refl
  | inr other ↦
      let rest : list_any t (filter p xs) ≡ true = any_filter p t xs keeps (rw other at is) in
      elim (cases_Bool (p x)) [
        | inl kept ↦ rw kept (or_right (t x) (list_any t (filter p xs)) rest)
        | inr gone ↦ rw gone rest
      ]
]
