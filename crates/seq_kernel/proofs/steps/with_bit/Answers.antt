use Rattle.std.proofs.Common.{◌≡◌, ℕ, ◌+◌, ◌-◌, ◌*◌, ◌/◌, ◌%◌, ◌^◌, ◌<◌, ◌≤◌, false, arith, sym, ap, ◌∙◌}
use Rattle.std.proofs.lemmas.Bool.{eqb-false}
use Rattle.std.proofs.lemmas.Nat.{pow-add}
use Rattle.std.proofs.Math.Nat.{mul-le-mul_left, mod-eq_of_lt}
use Rattle.std.proofs.Math.Pow.{split, shr_lt}
use Rattle.seq_words.specs.Masks.{has_bit}
use Rattle.seq_kernel.proofs.steps.with_bit.Goals as goal

-- a bit that is 0 may be added
free_bit : (n t : ℕ) → n < 65536 → t < 16 → has_bit n t ≡ false → n + 2 ^ t < 65536
free_bit n t small few free =
    let all : t + (15 - t) ≡ 15 = omega arith in
    let one_more : 16 - t + t ≡ 16 = omega arith in
    let last : 16 - t ≡ 1 + (15 - t) = omega arith in
    let whole : 2 ^ t * 2 ^ (15 - t) ≡ 32768 = sym (pow-add 2 t (15 - t)) ∙ ap (λ (e : ℕ). 2 ^ e) all in
    let above : 2 ^ (16 - t) ≡ 2 * 2 ^ (15 - t) = ap (λ (e : ℕ). 2 ^ e) last ∙ pow-add 2 1 (15 - t) in
    let low : n / 2 ^ t < 2 ^ (16 - t) = shr_lt (16 - t) t (rw one_more small) in
    let even : n / 2 ^ t % 2 ≡ 1 → ⊥ = eqb-false (n / 2 ^ t % 2) 1 free in
    let room : n / 2 ^ t + 2 ≤ 2 * 2 ^ (15 - t) = omega arith in
    omega (arith, mul-le-mul_left (2 ^ t) room, whole, split n t)

pub overflow_add-result : goal.overflow_add-result
overflow_add-result c =
    let fits = free_bit c.args.mask c.args.at (omega arith) c.requires.inside c.requires.free in
    let exact : 1 * 2 ^ c.args.at % 65536 ≡ 1 * 2 ^ c.args.at = mod-eq_of_lt (omega arith) in
    omega (arith, fits, exact)
