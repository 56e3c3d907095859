-- Bits of masks, and the numbers of lines among those of a mask.
use Rattle.std.proofs.Common.{◌≡◌, ◌≢◌, ℕ, suc, ◌+◌, ◌-◌, ◌*◌, ◌/◌, ◌%◌, ◌^◌, ◌<◌, ◌≤◌, true, false, ◌==◌, inl, inr, arith, refl, sym, ◌∙◌, ap, add-one}
use Rattle.std.specs.Prelude.{count_ones}
use Rattle.std.specs.Int.{bit_at}
use Rattle.std.proofs.lemmas.Bool.{cases_order, eqb-true, eqb-false}
use Rattle.std.proofs.lemmas.Nat.{shr-shr, ones_cat, zero_from_ones, div-add-mod', mod_below, mod-pow-add, pow_pos}
use Rattle.std.proofs.lemmas.Nat.Bits.{bit_at-suc, bit_at_lowest, bit_at-lt, bit_at-zero, bit_at_cat_low, bit_at_cat_high, same_from_bits}
use Rattle.seq_words.specs.Masks.{has_bit}
use Rattle.seq_layout.specs.Shapes.{index_of}

-- a bit that is set is 1, and any other is 0
pub set_bit : (mask n : ℕ) → has_bit mask n ≡ true → bit_at mask n ≡ 1
set_bit mask n h = eqb-true (bit_at mask n) 1 h

pub clear_bit : (mask n : ℕ) → has_bit mask n ≡ false → bit_at mask n ≡ 0
clear_bit mask n h =
    let other : bit_at mask n ≢ 1 = eqb-false (bit_at mask n) 1 h in
    omega (arith, bit_at-lt mask n)

pub same_bit : (a b n m : ℕ) → bit_at a n ≡ bit_at b m → has_bit a n ≡ has_bit b m
same_bit a b n m e = ap (λ k. k == 1) e

-- a number with no bit set is zero
pub zero_from_bits : (n : ℕ) → ((i : ℕ) → has_bit n i ≡ false) → n ≡ 0
zero_from_bits n none = same_from_bits n 0 (λ i. clear_bit n i (none i) ∙ sym (bit_at-zero i))

-- the bits of a mask from place k on
pub bit_above : (mask k i : ℕ) → has_bit (mask / 2 ^ k) i ≡ has_bit mask (k + i)
bit_above mask k i = ap (λ n. n % 2 == 1) (shr-shr mask k i)

-- numbers that differ in their bit t alone
pub bits_apart : (a b t low u : ℕ) → low < 2 ^ t → a / 2 ≡ b / 2 → u ≢ t → bit_at (a * 2 ^ t + low) u ≡ bit_at (b * 2 ^ t + low) u
bits_apart a b t low u small halves other = elim (cases_order u t) [
  | inl same ↦ absurd (other same)
  | inr (inl below) ↦ bit_at_cat_low a t low u below ∙ sym (bit_at_cat_low b t low u below)
  | inr (inr above) ↦
      let next : u - t ≡ suc (u - t - 1) = omega arith in
      let high : bit_at a (u - t) ≡ bit_at b (u - t) = rw next (bit_at-suc a (u - t - 1) ∙ ap (λ n. bit_at n (u - t - 1)) halves ∙ sym (bit_at-suc b (u - t - 1))) in
      let le : t ≤ u = omega arith in
      bit_at_cat_high a t low u small le ∙ high ∙ sym (bit_at_cat_high b t low u small le)
]

pub bit_here : (a t low : ℕ) → low < 2 ^ t → bit_at (a * 2 ^ t + low) t ≡ a % 2
bit_here a t low small =
    let le : t ≤ t = omega arith in
    let none : t - t ≡ 0 = omega arith in
    bit_at_cat_high a t low t small le ∙ ap (bit_at a) none ∙ bit_at_lowest a

-- a multiple less, and one more
one_less : (a k p low m : ℕ) → a ≡ suc k → a * p + low ≡ m → m - p ≡ k * p + low
one_less a k p low m is whole = rw (← whole, is) (omega arith)

one_more : (a p low m : ℕ) → a * p + low ≡ m → m + p ≡ suc a * p + low
one_more a p low m whole = rw (← whole) (omega arith)

module _ (mask t : ℕ) where
  small : mask % 2 ^ t < 2 ^ t
  small = mod_below mask (2 ^ t) (pow_pos t)

  parts : mask / 2 ^ t * 2 ^ t + mask % 2 ^ t ≡ mask
  parts = div-add-mod' mask (2 ^ t)

  -- a mask with a bit taken off
  without : has_bit mask t ≡ true → (k : ℕ) × (mask / 2 ^ t ≡ suc k) × (mask - 2 ^ t ≡ k * 2 ^ t + mask % 2 ^ t)
  without h =
      let odd : mask / 2 ^ t % 2 ≡ 1 = set_bit mask t h in
      let next : mask / 2 ^ t ≡ suc (mask / 2 ^ t - 1) = omega arith in
      (mask / 2 ^ t - 1, next, one_less (mask / 2 ^ t) (mask / 2 ^ t - 1) (2 ^ t) (mask % 2 ^ t) mask next parts)

  pub bit_off_here : has_bit mask t ≡ true → has_bit (mask - 2 ^ t) t ≡ false
  bit_off_here h =
      let (k, next, is) = without h in
      let odd : mask / 2 ^ t % 2 ≡ 1 = set_bit mask t h in
      let even : k % 2 ≡ 0 = omega arith in
      let none : bit_at (mask - 2 ^ t) t ≡ 0 = ap (λ n. bit_at n t) is ∙ bit_here k t (mask % 2 ^ t) small ∙ even in
      rw none refl

  pub bit_off_other : (u : ℕ) → u ≢ t → has_bit mask t ≡ true → has_bit (mask - 2 ^ t) u ≡ has_bit mask u
  bit_off_other u other h =
      let (k, next, is) = without h in
      let odd : mask / 2 ^ t % 2 ≡ 1 = set_bit mask t h in
      let halves : k / 2 ≡ mask / 2 ^ t / 2 = omega arith in
      same_bit (mask - 2 ^ t) mask u u (ap (λ n. bit_at n u) is ∙ bits_apart k (mask / 2 ^ t) t (mask % 2 ^ t) u small halves other ∙ ap (λ n. bit_at n u) parts)

  pub bit_on_here : has_bit mask t ≡ false → has_bit (mask + 2 ^ t) t ≡ true
  bit_on_here h =
      let even : mask / 2 ^ t % 2 ≡ 0 = clear_bit mask t h in
      let odd : suc (mask / 2 ^ t) % 2 ≡ 1 = omega arith in
      let is : mask + 2 ^ t ≡ suc (mask / 2 ^ t) * 2 ^ t + mask % 2 ^ t = one_more (mask / 2 ^ t) (2 ^ t) (mask % 2 ^ t) mask parts in
      let one : bit_at (mask + 2 ^ t) t ≡ 1 = ap (λ n. bit_at n t) is ∙ bit_here (suc (mask / 2 ^ t)) t (mask % 2 ^ t) small ∙ odd in
      rw one refl

  pub bit_on_other : (u : ℕ) → u ≢ t → has_bit mask t ≡ false → has_bit (mask + 2 ^ t) u ≡ has_bit mask u
  bit_on_other u other h =
      let even : mask / 2 ^ t % 2 ≡ 0 = clear_bit mask t h in
      let halves : suc (mask / 2 ^ t) / 2 ≡ mask / 2 ^ t / 2 = omega arith in
      let is : mask + 2 ^ t ≡ suc (mask / 2 ^ t) * 2 ^ t + mask % 2 ^ t = one_more (mask / 2 ^ t) (2 ^ t) (mask % 2 ^ t) mask parts in
      same_bit (mask + 2 ^ t) mask u u (ap (λ n. bit_at n u) is ∙ bits_apart (suc (mask / 2 ^ t)) (mask / 2 ^ t) t (mask % 2 ^ t) u small halves other ∙ ap (λ n. bit_at n u) parts)

-- the ones of a number are those of its high part and of its low part
ones_split : (mask l : ℕ) → count_ones (mask / 2 ^ l) + index_of mask l ≡ count_ones mask
ones_split mask l =
    let small : mask % 2 ^ l < 2 ^ l = mod_below mask (2 ^ l) (pow_pos l) in
    sym (ones_cat l (mask / 2 ^ l) (mask % 2 ^ l) small) ∙ ap count_ones (div-add-mod' mask (2 ^ l))

ones_of_odd : (n : ℕ) → n % 2 ≡ 1 → 0 < count_ones n
ones_of_odd n odd =
    let some : count_ones n ≢ 0 = λ none. (let zero_n : n ≡ 0 = zero_from_ones n none in absurd (omega arith)) in
    omega arith

-- a line of a mask has a number below the number of its lines
pub index_below : (mask l : ℕ) → has_bit mask l ≡ true → index_of mask l < count_ones mask
index_below mask l h = omega (arith, ones_split mask l, ones_of_odd (mask / 2 ^ l) (set_bit mask l h))

odd_below : (n k : ℕ) → n % 2 ≡ 1 → n % 2 ^ suc k % 2 ≡ 1
odd_below n k odd =
    let one : k + 1 ≡ suc k = add-one k in
    let split : n % 2 ^ (k + 1) ≡ (n / 2 % 2 ^ k) * 2 + n % 2 = mod-pow-add n k 1 in
    rw (← one, split) (omega arith)

-- of two lines of a mask the lower has the lower number
index_rises : (mask l m : ℕ) → l < m → has_bit mask l ≡ true → index_of mask l < index_of mask m
index_rises mask l m lt h =
    let far : m ≡ suc (m - l - 1) + l = omega arith in
    let odd : mask / 2 ^ l % 2 ≡ 1 = set_bit mask l h in
    let low : mask / 2 ^ l % 2 ^ suc (m - l - 1) % 2 ≡ 1 = odd_below (mask / 2 ^ l) (m - l - 1) odd in
    let split : mask % 2 ^ (suc (m - l - 1) + l) ≡ (mask / 2 ^ l % 2 ^ suc (m - l - 1)) * 2 ^ l + mask % 2 ^ l = mod-pow-add mask (suc (m - l - 1)) l in
    let small : mask % 2 ^ l < 2 ^ l = mod_below mask (2 ^ l) (pow_pos l) in
    let sum : index_of mask (suc (m - l - 1) + l) ≡ count_ones (mask / 2 ^ l % 2 ^ suc (m - l - 1)) + index_of mask l = ap count_ones split ∙ ones_cat l (mask / 2 ^ l % 2 ^ suc (m - l - 1)) (mask % 2 ^ l) small in
    let same : index_of mask m ≡ index_of mask (suc (m - l - 1) + l) = ap (index_of mask) far in
    omega (arith, ones_of_odd (mask / 2 ^ l % 2 ^ suc (m - l - 1)) low)

-- own lines have distinct numbers
pub index_apart : (mask l m : ℕ) → has_bit mask l ≡ true → has_bit mask m ≡ true → l ≢ m → index_of mask l ≢ index_of mask m
index_apart mask l m here there other same = elim (cases_order l m) [
  | inl equal ↦ other equal
  | inr (inl below) ↦ (let rise = index_rises mask l m below here in omega arith)
  | inr (inr above) ↦ (let rise = index_rises mask m l above there in omega arith)
]
