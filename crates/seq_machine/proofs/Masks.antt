-- Bits of masks that are put together or taken apart.
use Rattle.std.proofs.Common.{◌≡◌, ℕ, zero, suc, ◌-◌, ◌^◌, ◌<◌, false, not, ◌&&◌, ◌||◌, ◌==◌, min, max, inl, inr, arith, refl, sym, ◌∙◌, ap}
use Rattle.std.specs.Prelude.{bit_and, bit_or}
use Rattle.std.specs.Int.{bit_at, w16}
use Rattle.std.proofs.lemmas.Bool.{cases_lt}
use Rattle.std.proofs.lemmas.Nat.Bits.{bit_at_and, bit_at_or, bit_at_not, bit_at-lt, bit_at_above}
use Rattle.seq_words.specs.Masks.{has_bit}

either_one : (x y : ℕ) → x < 2 → y < 2 → (max x y == 1) ≡ (x == 1 || y == 1)
either_one zero zero first second = refl
either_one zero (suc zero) first second = refl
either_one (suc zero) zero first second = refl
either_one (suc zero) (suc zero) first second = refl
either_one (suc (suc x)) y first second = absurd (omega (arith, first))
either_one x (suc (suc y)) first second = absurd (omega (arith, second))

pub either_bit : (a b t : ℕ) → has_bit (bit_or a b) t ≡ (has_bit a t || has_bit b t)
either_bit a b t = ap (λ n. n == 1) (bit_at_or a b t) ∙ either_one (bit_at a t) (bit_at b t) (bit_at-lt a t) (bit_at-lt b t)

one_alone : (x y : ℕ) → x < 2 → y < 2 → (min x (1 - y) == 1) ≡ (x == 1 && not (y == 1))
one_alone zero zero first second = refl
one_alone zero (suc zero) first second = refl
one_alone (suc zero) zero first second = refl
one_alone (suc zero) (suc zero) first second = refl
one_alone (suc (suc x)) y first second = absurd (omega (arith, first))
one_alone x (suc (suc y)) first second = absurd (omega (arith, second))

none_alone : (x y : ℕ) → x ≡ 0 → y < 2 → (min x y == 1) ≡ false
none_alone zero zero e second = refl
none_alone zero (suc zero) e second = refl
none_alone zero (suc (suc y)) e second = absurd (omega (arith, second))
none_alone (suc x) y e second = absurd (omega (arith, e))

pub without_bit : (a b t : ℕ) → a < 2 ^ 16 → b < 2 ^ 16 → has_bit (bit_and a (65535 - b)) t ≡ (has_bit a t && not (has_bit b t))
without_bit a b t small small_too = ap (λ n. n == 1) (bit_at_and a (65535 - b) t) ∙ (elim (cases_lt t 16) [
  | inl low ↦ ap (λ n. min (bit_at a t) n == 1) (bit_at_not w16 b t small_too low) ∙ one_alone (bit_at a t) (bit_at b t) (bit_at-lt a t) (bit_at-lt b t)
  | inr high ↦
      let off : bit_at a t ≡ 0 = bit_at_above a 16 t small high in
      none_alone (bit_at a t) (bit_at (65535 - b) t) off (bit_at-lt (65535 - b) t) ∙ sym (ap (λ n. (n == 1) && not (has_bit b t)) off)
])
