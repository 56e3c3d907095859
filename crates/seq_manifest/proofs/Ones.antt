-- How many bits a mask has.
use Rattle.std.proofs.Common.{◌≡◌, ℕ, zero, suc, ◌+◌, ◌*◌, ◌/◌, ◌%◌, ◌^◌, ◌<◌, ◌≤◌, Bool, true, false, cond, eqb, List, ◌∷◌, length, inl, inr, refl, sym, ap, subst, ◌∙◌, arith}
use Rattle.std.specs.Prelude.{count_ones}
use Rattle.std.specs.List.{filter, range_with_len}
use Rattle.std.proofs.lemmas.Bool.{cases_eq}
use Rattle.std.proofs.lemmas.Nat.{ones_cat, zero_from_ones, ones_le_self, shr-shr, shr_below, div-add-mod'}
use Rattle.std.proofs.lemmas.Nat.Bits.{bit_at-lt}
use Rattle.std.proofs.Math.Nat.{div-one}
use Rattle.seq_words.specs.Masks.{has_bit}
use Rattle.seq_manifest.specs.Drafts.{numbers_in}

ones-zero : count_ones 0 ≡ 0
ones-zero = let e = ones_cat 0 0 0 (omega arith) in omega (arith, e)

ones-one : count_ones 1 ≡ 1
ones-one = let le = ones_le_self 1 in elim (cases_eq (count_ones 1) 0) [ inl e ↦ absurd (let z = zero_from_ones 1 e in omega (arith, z)) | inr ne ↦ one (count_ones 1) le ne ]
  where
    one : (n : ℕ) → n ≤ 1 → (n ≡ 0 → ⊥) → n ≡ 1
    one zero le ne = absurd (ne refl)
    one (suc n) le ne = omega arith

ones-bit : (m lo : ℕ) → count_ones (m / 2 ^ lo) ≡ count_ones (m / 2 ^ (lo + 1)) + cond (has_bit m lo) 1 0
ones-bit m lo =
    let half : m / 2 ^ lo / 2 ^ 1 ≡ m / 2 ^ (lo + 1) = shr-shr m lo 1 in
    let lt : m / 2 ^ lo % 2 < 2 ^ 1 = bit_at-lt m lo in
    let split : m / 2 ^ lo / 2 * 2 + m / 2 ^ lo % 2 ≡ m / 2 ^ lo = div-add-mod' (m / 2 ^ lo) 2 in
    let cat = ones_cat 1 (m / 2 ^ lo / 2) (m / 2 ^ lo % 2) lt in
    let low : count_ones (m / 2 ^ lo % 2) ≡ cond (has_bit m lo) 1 0 = lowest (m / 2 ^ lo % 2) (bit_at-lt m lo) in
    let high : count_ones (m / 2 ^ lo / 2) ≡ count_ones (m / 2 ^ (lo + 1)) = ap count_ones half in
    ap count_ones (sym split) ∙ cat ∙ both _ _ _ _ high low
  where
    lowest : (b : ℕ) → b < 2 → count_ones b ≡ cond (eqb b 1) 1 0
    lowest zero lt = ones-zero
    lowest (suc zero) lt = ones-one
    lowest (suc (suc b)) lt = absurd (omega arith)

    both : (a b c d : ℕ) → a ≡ c → b ≡ d → a + b ≡ c + d
    both a b c d e f = cc

ones-range : (m n lo : ℕ) → m < 2 ^ (lo + n) → count_ones (m / 2 ^ lo) ≡ length (filter (λ k. has_bit m k) (range_with_len lo n))
ones-range m zero lo lt =
    let at : lo + 0 ≡ 0 + lo = omega arith in
    let below : m / 2 ^ lo < 2 ^ 0 = shr_below m 0 lo (subst (λ k. m < 2 ^ k) at lt) in
    let none : m / 2 ^ lo ≡ 0 = omega arith in
    ap count_ones none ∙ ones-zero
ones-range m (suc n) lo lt =
    let at : lo + suc n ≡ lo + 1 + n = omega arith in
    let rest = ones-range m n (lo + 1) (subst (λ k. m < 2 ^ k) at lt) in
    ones-bit m lo ∙ counted (has_bit m lo) (count_ones (m / 2 ^ (lo + 1))) (filter (λ k. has_bit m k) (range_with_len (lo + 1) n)) rest
  where
    counted : (b : Bool) (c : ℕ) (ks : List ℕ) → c ≡ length ks → c + cond b 1 0 ≡ length (cond b (lo ∷ ks) ks)
    counted true c ks e = omega (arith, e)
    counted false c ks e = omega (arith, e)

pub ones-numbers_in : (m : ℕ) → m < 2 ^ 16 → count_ones m ≡ length (numbers_in m)
unfolding numbers_in
ones-numbers_in m lt = ap count_ones (sym (div-one m)) ∙ ones-range m 16 0 lt
