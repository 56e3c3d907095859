-- Masks of sixteen bits.
use Rattle.std.proofs.Common.{◌≡◌, ℕ, ◌/◌, ◌^◌, ◌<◌, ◌≤◌, false, arith, refl}
use Rattle.std.proofs.Math.Nat.{div-eq_of_lt}
use Rattle.std.proofs.Math.Pow.{pow_mono}
use Rattle.seq_words.specs.Masks.{has_bit}

-- a mask has no bit from the sixteenth on
pub no_bit_above : (mask n : ℕ) → mask < 2 ^ 16 → 16 ≤ n → has_bit mask n ≡ false
no_bit_above mask n small above =
    let high : 2 ^ 16 ≤ 2 ^ n = pow_mono above in
    let below : mask < 2 ^ n = omega (arith, high) in
    let none : mask / 2 ^ n ≡ 0 = div-eq_of_lt below in
    rw none refl
