-- Places of an outbox. Numbers alone, but for the outputs at the end.
use Rattle.std.proofs.Common.{◌≡◌, ℕ, ◌+◌, ◌-◌, ◌*◌, ◌/◌, ◌%◌, ◌<◌, ◌≤◌, true, false, List, ◌++◌, length, get_or, map, inl, inr, arith, refl, ◌∙◌, ap}
use Rattle.std.specs.Prelude.{nat_lt, ◌==◌, if◌then◌else◌, slice_index}
use Rattle.std.specs.List.{All, range_with_len, list_any}
use Rattle.std.proofs.lemmas.Bool.{cases_lt, lt-ltb, le-ltb, eq-eqb, eqb-true}
use Rattle.std.proofs.lemmas.List.{length-append, get_or_append_left, get_or-append-add}
use Rattle.std.proofs.lemmas.List.Elements.{All-map, All-filter}
use Rattle.std.proofs.lemmas.List.Folds.{list_any_at}
use Rattle.std.proofs.lemmas.List.FromFn.{length-map-range_with_len, get_or-map-range_with_len}
use Rattle.seq_kernel.specs.Outboxes.{after_place, is_touched, touched_block, touched}
use Rattle.seq_kernel.specs.Shown.{outbox_byte}
use Rattle.seq_kernel.proofs.OutboxTouched.{any_at, any_filter}

-- the byte that stands `after_place from q` after number `from` has place q
at_place : (from q : ℕ) → q < 256 → (from + after_place from q) % 256 ≡ q
at_place from q lt = omega arith

-- the greatest number below `from + n` of a place, where one of the n last numbers has it
newest : (from n a q : ℕ) → (from + a) % 256 ≡ q → a < n → n ≤ 256 → from + n - 1 - (from + n - 1 - q) % 256 ≡ from + a
newest from n a q place lt few = omega arith

-- where none of them has it, but an earlier one has, that is the greatest
older : (from n a q : ℕ) → (from + a) % 256 ≡ q → n ≤ a → a < 256 → q < from → from + n - 1 - (from + n - 1 - q) % 256 ≡ from + a - 256
older from n a q place past small before = omega arith

-- a place that no number has
unused : (from n q : ℕ) → q < 256 → n ≤ after_place from q → from ≤ q → from + n ≤ q
unused from n q lt past none = omega arith

-- The bytes that are put out stand at their places, and every other place is as before.
pub outbox_more : (output bytes : List ℕ) (q : ℕ) → q < 256 → length bytes ≤ 256 → outbox_byte (output ++ bytes) q ≡ (if nat_lt (after_place (length output) q) (length bytes) then slice_index bytes (after_place (length output) q) else outbox_byte output q)
unfolding outbox_byte
outbox_more output bytes q lt few =
    let from : ℕ = length output in
    let n : ℕ = length bytes in
    let a : ℕ = after_place from q in
    let place : (from + a) % 256 ≡ q = at_place from q lt in
    elim (cases_lt a n) [
      | inl new ↦
          let there : q < from + n = omega arith in
          let within : nat_lt q (from + n) ≡ true = lt-ltb q (from + n) there in
          let is_new : nat_lt a n ≡ true = lt-ltb a n new in
          rw (length-append output bytes, within, is_new) (rw (newest from n a q place new few) (get_or-append-add output bytes a 0))
      | inr old ↦ elim (cases_lt q from) [
        | inl before ↦
            let small : a < 256 = omega arith in
            let within : nat_lt q (from + n) ≡ true = lt-ltb q (from + n) (omega arith) in
            let was : nat_lt q from ≡ true = lt-ltb q from before in
            let is_old : nat_lt a n ≡ false = le-ltb a n old in
            let there : from + a - 256 < length output = omega arith in
            let same : from - 1 - (from - 1 - q) % 256 ≡ from + a - 256 = omega arith in
            rw (length-append output bytes, within, was, is_old) (rw (older from n a q place old small before, same) (get_or_append_left output bytes 0 (from + a - 256) there))
        | inr none ↦
            let out : nat_lt q (from + n) ≡ false = le-ltb q (from + n) (unused from n q lt old none) in
            let was : nat_lt q from ≡ false = le-ltb q from none in
            let is_old : nat_lt a n ≡ false = le-ltb a n old in
            rw (length-append output bytes, out, is_old, was) refl
      ]
    ]

-- the block of a place, counted from that of the first byte
block_in_ring : (from a q : ℕ) → (from + a) % 256 ≡ q → (from % 256 / 32 + (from % 32 + a) / 32 % 8) % 8 ≡ q / 32
block_in_ring from a q place = omega arith

-- it is touched where the place gets a byte
place_touched : (from count q : ℕ) → after_place from q < count → is_touched from count (q / 32) ≡ true
unfolding is_touched
place_touched from count q new =
    let whole : 32 * (q / 32) + q % 32 ≡ q = omega arith in
    any_at (λ j. nat_lt (after_place from (32 * (q / 32) + j)) count) 32 0 (q % 32) (omega arith) (omega arith) (ap (λ n. nat_lt (after_place from n) count) whole ∙ lt-ltb (after_place from q) count new)

-- a block that has one of the places is touched, and no block from the eighth on
pub touched_at : (from count q : ℕ) → q < 256 → after_place from q < count → list_any (λ k. k == q / 32) (touched from count) ≡ true
unfolding touched
touched_at from count q lt new =
    let a : ℕ = after_place from q in
    let i : ℕ = (from % 32 + a) / 32 % 8 in
    let inside : i < 8 = omega arith in
    let ring : List ℕ = map (touched_block from) (range_with_len 0 8) in
    let there : i < length ring = rw (length-map-range_with_len (touched_block from) 0 8) inside in
    let is : get_or ring i 0 ≡ touched_block from i = get_or-map-range_with_len (touched_block from) 0 8 i i 0 inside (omega arith) in
    let found : list_any (λ k. k == q / 32) ring ≡ true = list_any_at (λ k. k == q / 32) ring i 0 there (eq-eqb _ (q / 32) (is ∙ block_in_ring from a q (at_place from q lt))) in
    any_filter (is_touched from count) (λ k. k == q / 32) ring (λ k same. ap (is_touched from count) (eqb-true k (q / 32) same) ∙ place_touched from count q new) found

pub touched_below : (from count : ℕ) → All (λ k. k < 8) (touched from count)
unfolding touched
touched_below from count = All-filter (is_touched from count) (λ k. k < 8) (map (touched_block from) (range_with_len 0 8)) (All-map (λ (k : ℕ). k < 8) (touched_block from) (range_with_len 0 8) (λ k d lt. omega arith))
