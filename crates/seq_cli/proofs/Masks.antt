-- Masks that are made from the highest bit down.
use Rattle.std.proofs.Common.{◌≡◌, ℕ, zero, suc, ◌+◌, ◌-◌, ◌*◌, ◌/◌, ◌%◌, ◌^◌, ◌<◌, Bool, true, false, cond, ◌==◌, List, get_or, refl, ap, ◌∙◌, arith}
use Rattle.std.specs.Int.{bit_at}
use Rattle.std.proofs.lemmas.Nat.{pow-add}
use Rattle.std.proofs.lemmas.Nat.Bits.{bit_at-suc, bit_at_lowest}
use Rattle.seq_words.specs.Masks.{has_bit}

bit_is : (b : Bool) → cond b 1 0 == 1 ≡ b
bit_is true = refl
bit_is false = refl

first_bit : (m : ℕ) (b : Bool) → has_bit (2 * m + cond b 1 0) 0 ≡ b
first_bit m true = ap (λ n. n == 1) (bit_at_lowest (2 * m + 1) ∙ (let odd : (2 * m + 1) % 2 ≡ 1 = omega arith in odd))
first_bit m false = ap (λ n. n == 1) (bit_at_lowest (2 * m + 0) ∙ (let even : (2 * m + 0) % 2 ≡ 0 = omega arith in even))

half : (m : ℕ) (b : Bool) → (2 * m + cond b 1 0) / 2 ≡ m
half m true = omega arith
half m false = omega arith

next_bit : (m : ℕ) (b : Bool) (k : ℕ) → has_bit (2 * m + cond b 1 0) (suc k) ≡ has_bit m k
next_bit m b k = ap (λ n. n == 1) (bit_at-suc (2 * m + cond b 1 0) k ∙ ap (λ n. bit_at n k) (half m b))

-- the bits of the marks from a place on, with the one before it
pub one_lower : (m above : ℕ) (b : Bool) (marks : List Bool) → above < 16 → b ≡ get_or marks (15 - above) false → ((k : ℕ) → k < above → has_bit m k ≡ get_or marks (16 - above + k) false)
    → (k : ℕ) → k < above + 1 → has_bit (2 * m + cond b 1 0) k ≡ get_or marks (16 - (above + 1) + k) false
one_lower m above b marks few is bits zero lt =
    let at : 15 - above ≡ 16 - (above + 1) + 0 = omega arith in
    first_bit m b ∙ is ∙ ap (λ n. get_or marks n false) at
one_lower m above b marks few is bits (suc k) lt =
    let at : 16 - above + k ≡ 16 - (above + 1) + suc k = omega arith in
    next_bit m b k ∙ bits k (omega arith) ∙ ap (λ n. get_or marks n false) at

pub one_larger : (m above : ℕ) (b : Bool) → m < 2 ^ above → 2 * m + cond b 1 0 < 2 ^ (above + 1)
one_larger m above true small = let twice : 2 ^ (above + 1) ≡ 2 ^ above * 2 ^ 1 = pow-add 2 above 1 in omega (arith, twice, small)
one_larger m above false small = let twice : 2 ^ (above + 1) ≡ 2 ^ above * 2 ^ 1 = pow-add 2 above 1 in omega (arith, twice, small)
