-- The numbers that instructions make have 32 bits.
use Rattle.std.proofs.Common.{◌≡◌, ℕ, zero, suc, ◌+◌, ◌*◌, ◌/◌, ◌%◌, ◌^◌, ◌<◌, ◌≤◌, Bool, true, false, Option, Some, None, ℤ, pos, negsuc, neg_ℤ, ◌*ℤ◌, arith, refl, inl, inr}
use Rattle.std.specs.Prelude.{nat_lt, ◌==◌, option_and_then, option_map, int_div, int_rem}
use Rattle.std.specs.Int.RustNames.{unsigned_abs}
use Rattle.std.specs.Int.{cast_unsigned, w64, int_shr}
use Rattle.std.proofs.lemmas.Bool.{cases_Bool, ltb-true, ltb-false}
use Rattle.std.proofs.lemmas.Int.{ints}
use Rattle.std.proofs.Math.Nat.{div-le_self, mod-le, mul-le-mul, pow-succ'}
use Rattle.seq_words.specs.declared.regs.Regs.{Regs}
use Rattle.seq_isa.specs.Meaning.{Bytes, number_at, register, signed, unsigned, upper, shifted_signed, extended, flag, quotient, remainder, quotient_unsigned, remainder_unsigned}
use Rattle.seq_isa.specs.InRange.{IsImmediate}
use Rattle.seq_rv32.specs.Outcomes.{AreWords, HasBytes}

-- how far from 0 an integer is
size : ℤ → ℕ
size (pos n) = n
size (negsuc n) = suc n

-- an integer is below a number
Below : ℕ → ℤ → Type 0
Below k (pos n) = n < k
Below k (negsuc n) = Unit {0}

negated : (k n : ℕ) → 0 < k → Below k (neg_ℤ (pos n))
unfolding Below
negated k zero some = some
negated k (suc n) some = tt

-- the bits of an integer below 2 ^ 32
bits_small : (z : ℤ) → Below (2 ^ 32) z → unsigned z < 2 ^ 32
unfolding Below
bits_small (pos n) below = below
bits_small (negsuc n) below = omega arith

wide_bits_small : (z : ℤ) → Below (2 ^ 64) z → cast_unsigned w64 z < 2 ^ 64
unfolding Below
wide_bits_small (pos n) below = below
wide_bits_small (negsuc n) below = omega arith

signed_size : (n : ℕ) → size (signed n) ≤ 2 ^ 31
unfolding size
signed_size n = elim (cases_Bool (nat_lt n (2 ^ 31))) [
  | inl is ↦ let less : n < 2 ^ 31 = ltb-true n (2 ^ 31) is in rw is (omega (arith, less))
  | inr not ↦ let more : 2 ^ 31 ≤ n = ltb-false n (2 ^ 31) not in rw not (omega (arith, more))
]

quotient_below : (a b : ℤ) → size a ≤ 2 ^ 31 → Below (2 ^ 32) (int_div a b)
unfolding size Below
quotient_below (pos a) (pos b) h = let less : a / b ≤ a = div-le_self a b in omega (arith, h, less)
quotient_below (pos a) (negsuc b) h = negated (2 ^ 32) (a / suc b) (omega arith)
quotient_below (negsuc a) (pos b) h = negated (2 ^ 32) (suc a / b) (omega arith)
quotient_below (negsuc a) (negsuc b) h = let less : suc a / suc b ≤ suc a = div-le_self (suc a) (suc b) in omega (arith, h, less)

remainder_below : (a b : ℤ) → size a ≤ 2 ^ 31 → Below (2 ^ 32) (int_rem a b)
unfolding size Below
remainder_below (pos a) b h = let less : a % unsigned_abs b ≤ a = mod-le a (unsigned_abs b) in omega (arith, h, less)
remainder_below (negsuc a) b h = negated (2 ^ 32) (suc a % unsigned_abs b) (omega arith)

shifted_below : (a : ℤ) (m : ℕ) → size a ≤ 2 ^ 31 → Below (2 ^ 32) (int_shr a m)
unfolding size Below
shifted_below (pos a) m h = let less : a / 2 ^ m ≤ a = div-le_self a (2 ^ m) in omega (arith, h, less)
shifted_below (negsuc a) m h = tt

product_below : (a b : ℤ) → size a ≤ 2 ^ 31 → size b ≤ 2 ^ 32 → Below (2 ^ 64) (a *ℤ b)
unfolding size Below
product_below (pos a) (pos b) h k = let less : a * b ≤ 2 ^ 31 * 2 ^ 32 = mul-le-mul h k in omega (arith, less)
product_below (pos a) (negsuc b) h k = negated (2 ^ 64) (a * suc b) (omega arith)
product_below (negsuc a) (pos b) h k = negated (2 ^ 64) (suc a * b) (omega arith)
product_below (negsuc a) (negsuc b) h k = let less : suc a * suc b ≤ 2 ^ 31 * 2 ^ 32 = mul-le-mul h k in omega (arith, less)

upper_small : (a : ℕ) (b : ℤ) → size b ≤ 2 ^ 32 → upper (signed a *ℤ b) < 2 ^ 32
upper_small a b h =
    let small : cast_unsigned w64 (signed a *ℤ b) < 2 ^ 64 = wide_bits_small (signed a *ℤ b) (product_below (signed a) b (signed_size a) h) in
    omega (arith, small)

pub upper_signed : (a b : ℕ) → upper (signed a *ℤ signed b) < 2 ^ 32
upper_signed a b = let h = signed_size b in upper_small a (signed b) (omega (arith, h))

pub upper_unsigned : (a b : ℕ) → b < 2 ^ 32 → upper (signed a *ℤ pos b) < 2 ^ 32
unfolding size
upper_unsigned a b h = upper_small a (pos b) (omega (arith, h))

pub shifted_small : (a amount : ℕ) → shifted_signed a amount < 2 ^ 32
shifted_small a amount = bits_small (int_shr (signed a) amount) (shifted_below (signed a) amount (signed_size a))

pub product_small : (a b : ℕ) → a < 2 ^ 32 → b < 2 ^ 32 → a * b / 2 ^ 32 < 2 ^ 32
product_small a b h k =
    let one : a ≤ 4294967295 = omega (arith, h) in
    let two : b ≤ 4294967295 = omega (arith, k) in
    let less : a * b ≤ 4294967295 * 4294967295 = mul-le-mul one two in
    omega (arith, less)

-- an immediate of 12 bits
pub immediate_small : (z : ℤ) → IsImmediate z → unsigned z < 2 ^ 32
immediate_small (pos n) h = let high = h.high in omega (arith, ints)
immediate_small (negsuc n) h = omega arith

pub register_small : (r : Regs) (i : ℕ) → AreWords r → register r i < 2 ^ 32
register_small r i small = elim (cases_Bool (i == 0)) [
  | inl is ↦ rw is (omega arith)
  | inr not ↦ rw not (small.register i)
]

pub flag_small : (b : Bool) → flag b < 2 ^ 32
flag_small true = omega arith
flag_small false = omega arith

pub extended_small : (half n : ℕ) → n < 2 * half → 2 * half < 2 ^ 32 → extended half n < 2 ^ 32
extended_small half n below few = elim (cases_Bool (nat_lt n half)) [
  | inl is ↦ rw is (omega arith)
  | inr not ↦ rw not (omega arith)
]

pub divided_small : (a b : ℕ) → a < 2 ^ 32 → a / b < 2 ^ 32
divided_small a b small = let less : a / b ≤ a = div-le_self a b in omega (arith, less)

pub quotient_small : (a b : ℕ) → quotient a b < 2 ^ 32
unfolding quotient
quotient_small a b = elim (cases_Bool (b == 0)) [
  | inl is ↦ rw is (omega arith)
  | inr not ↦ rw not (bits_small (int_div (signed a) (signed b)) (quotient_below (signed a) (signed b) (signed_size a)))
]

pub remainder_small : (a b : ℕ) → a < 2 ^ 32 → remainder a b < 2 ^ 32
unfolding remainder
remainder_small a b small = elim (cases_Bool (b == 0)) [
  | inl is ↦ rw is small
  | inr not ↦ rw not (bits_small (int_rem (signed a) (signed b)) (remainder_below (signed a) (signed b) (signed_size a)))
]

pub quotient_unsigned_small : (a b : ℕ) → a < 2 ^ 32 → quotient_unsigned a b < 2 ^ 32
unfolding quotient_unsigned
quotient_unsigned_small a b small = elim (cases_Bool (b == 0)) [
  | inl is ↦ rw is (omega arith)
  | inr not ↦ rw not (divided_small a b small)
]

pub remainder_unsigned_small : (a b : ℕ) → a < 2 ^ 32 → remainder_unsigned a b < 2 ^ 32
unfolding remainder_unsigned
remainder_unsigned_small a b small = elim (cases_Bool (b == 0)) [
  | inl is ↦ rw is small
  | inr not ↦ rw not (let less : a % b ≤ a = mod-le a b in omega (arith, less))
]

-- a number of bytes
pub number_small : (bytes : Bytes) (at width n : ℕ) → HasBytes bytes → number_at bytes at width ≡ Some n → n < 256 ^ width
unfolding number_at
number_small bytes at zero n have is = let zero_is : 0 ≡ n = cc in omega (arith, zero_is)
number_small bytes at (suc width) n have is = go (bytes at) refl (number_at bytes (at + 1) width) refl (λ k e. number_small bytes (at + 1) width k have e) is
  where
    go : (o : Option ℕ) → bytes at ≡ o → (rest : Option ℕ) → number_at bytes (at + 1) width ≡ rest → ((k : ℕ) → number_at bytes (at + 1) width ≡ Some k → k < 256 ^ width) → option_and_then (λ b. option_map (λ k. b + 256 * k) rest) o ≡ Some n → n < 256 ^ suc width
    go None e rest f less is = absurd cc
    go (Some b) e None f less is = absurd cc
    go (Some b) e (Some k) f less is =
        let byte : b < 256 = have.byte at b e in
        let more : k < 256 ^ width = less k f in
        let made : b + 256 * k ≡ n = cc in
        let power : 256 ^ suc width ≡ 256 * 256 ^ width = pow-succ' 256 width in
        omega (arith, byte, more, made, power)
