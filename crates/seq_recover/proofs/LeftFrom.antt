-- The lowest lock word from a number on that a recovery is to clear.
use Rattle.std.proofs.Common.{◌≡◌, ℕ, ◌+◌, ◌*◌, ◌<◌, ◌≤◌, Bool, true, false, ◌&&◌, nat_le, Some, None, length}
use Rattle.std.proofs.lemmas.Bool.{and_parts, and_from, and_left, and_right, false≢true, le-leb, lt-leb, leb-true}
use Rattle.seq_words.specs.declared.description.MachineDesc.{MachineDesc}
use Rattle.seq_layout.specs.Copies.{Copies}
use Rattle.seq_ruling.specs.Lowest.{lowest}
use Rattle.seq_ruling.proofs.Lowest.{is_lowest, none_passes, none_found, lowest_more, lowest_found}
use Rattle.seq_recover.specs.Reading.{is_left, left_from}

second_fails : (a b : Bool) → a ≡ true → (a && b) ≡ false → b ≡ false
second_fails true b first both = both
second_fails false b first both = absurd (false≢true first)

-- whether a lock word from a number on is to be cleared
abbrev pub test : MachineDesc → Copies → ℕ → ℕ → ℕ → Bool
test d p q n j = nat_le n j && is_left d p q j

module _ (d : MachineDesc) (p : Copies) (q n : ℕ) where
  -- it is to be cleared, and is none of those before
  pub left_passes : (k : ℕ) → left_from d p q n ≡ Some k → (n ≤ k) × (is_left d p q k ≡ true) × (k < 2 * length d.segments)
  left_passes k found =
      let is = is_lowest (test d p q n) (2 * length d.segments) k found in
      let parts = and_parts (nat_le n k) (is_left d p q k) is.passes in
      (leb-true n k parts.0, parts.1, is.within)

  -- where there is none, none from there on is to be cleared
  pub left_none : left_from d p q n ≡ None → (k : ℕ) → n ≤ k → k < 2 * length d.segments → is_left d p q k ≡ false
  left_none none k behind inside = second_fails (nat_le n k) (is_left d p q k) (le-leb n k behind) (none_passes (test d p q n) (2 * length d.segments) none k inside)

  -- and none between
  pub left_least : (k : ℕ) → left_from d p q n ≡ Some k → (j : ℕ) → n ≤ j → j < k → is_left d p q j ≡ false
  left_least k found j behind lower = second_fails (nat_le n j) (is_left d p q j) (le-leb n j behind) ((is_lowest (test d p q n) (2 * length d.segments) k found).none_below j lower)

  -- it is found by going up, with none below the first
  pub none_before : lowest (test d p q n) n ≡ None
  none_before = none_found (test d p q n) n (λ j lt. and_left _ _ (lt-leb n j lt))

  pub one_more : (j : ℕ) → lowest (test d p q n) j ≡ None → is_left d p q j ≡ false → lowest (test d p q n) (j + 1) ≡ None
  one_more j none here = lowest_more (test d p q n) j none (and_right _ _ here)

  pub found_at : (j : ℕ) → n ≤ j → lowest (test d p q n) j ≡ None → is_left d p q j ≡ true → j < 2 * length d.segments → left_from d p q n ≡ Some j
  found_at j le none here lt = lowest_found (test d p q n) j (2 * length d.segments) none (and_from _ _ (le-leb n j le) here) lt
