-- Numbers in the ranges of operands.
use Rattle.std.proofs.Common.{◌≡◌, ℕ, suc, ◌<◌, ◌≤◌, ◌%◌, Bool, true, false, ◌&&◌, cond, ltb, leb, eqb, List, Option, Some, None, refl, sym, ap, subst, arith}
use Rattle.std.specs.Prelude.{ℤ, pos, negsuc, MatchOption, IfSome}
use Rattle.std.proofs.lemmas.Bool.{ltb-true, lt-ltb, leb-true, le-leb, eqb-true, eq-eqb, and_parts, and_from}
use mir.Syntax.{w64}
use mir.Val.{SFits, to_z, of_z}
use Rattle.std.proofs.lemmas.Int.{ints, to_z-of_z}
use Rattle.seq_isa.specs.InRange.{IsImmediate, IsOffset}
use Rattle.seq_mnemonics.specs.Ranges.{IsBelow}
use Rattle.seq_mnemonics.specs.Registers.{register_of}
use Rattle.seq_mnemonics.proofs.Tables.{registers_are_exact}
use Rattle.seq_source.specs.Numbers.{fits_in, is_even, immediate_of, offset_of, below}

decided : (b : Bool) (P : ℤ → Type 0) (z : ℤ) (o : Option ℤ) → (b ≡ true → P z) → (P z → b ≡ true) → MatchOption o (P z → ⊥) (λ i. (i ≡ z) × P i) → o ≡ cond b (Some z) None
decided true P z None to back h = absurd (h (to refl))
decided true P z (Some i) to back h = ap (λ x. Some x) h.0
decided false P z None to back h = refl
decided false P z (Some i) to back h = let e : false ≡ true = back (subst P h.0 h.1) in absurd cc

-- ---- immediates

immediate_yes : (z : ℤ) → fits_in 2048 z ≡ true → IsImmediate z
immediate_yes (pos n) e = let h = ltb-true _ _ e in grind (arith, ints)
immediate_yes (negsuc n) e = let h : n ≤ 2047 = leb-true _ _ (and_parts (leb n 2047) true e).0 in grind (arith, ints)

immediate_no : (z : ℤ) → IsImmediate z → fits_in 2048 z ≡ true
immediate_no (pos n) h = let a = h.high in lt-ltb n 2048 (omega (arith, ints))
immediate_no (negsuc n) h = let a = h.low in and_from (leb n 2047) true (le-leb n 2047 (omega (arith, ints))) refl

pub immediate_is : (z : ℤ) (o : Option ℤ) → MatchOption o (IsImmediate z → ⊥) (λ i. (i ≡ z) × IsImmediate i) → o ≡ immediate_of z
unfolding immediate_of
immediate_is z o h = decided (fits_in 2048 z) IsImmediate z o (immediate_yes z) (immediate_no z) h

-- ---- offsets

branch_yes : (z : ℤ) → (fits_in 4096 z && is_even z) ≡ true → IsOffset 4096 z
branch_yes (pos n) e = let p = and_parts (ltb n 4096) (eqb (n % 2) 0) e in let h : n < 4096 = ltb-true _ _ p.0 in let k : n % 2 ≡ 0 = eqb-true _ _ p.1 in grind (arith, ints)
branch_yes (negsuc n) e = let p = and_parts (fits_in 4096 (negsuc n)) (eqb (suc n % 2) 0) e in let h : n ≤ 4095 = leb-true _ _ (and_parts (leb n 4095) true p.0).0 in let k : suc n % 2 ≡ 0 = eqb-true _ _ p.1 in grind (arith, ints)

branch_no : (z : ℤ) → IsOffset 4096 z → (fits_in 4096 z && is_even z) ≡ true
branch_no (pos n) h = let a = h.high in let b = h.even in and_from (ltb n 4096) (eqb (n % 2) 0) (lt-ltb n 4096 (omega (arith, ints))) (eq-eqb (n % 2) 0 (omega (arith, ints)))
branch_no (negsuc n) h = let a = h.low in let b = h.even in and_from (fits_in 4096 (negsuc n)) (eqb (suc n % 2) 0) (and_from (leb n 4095) true (le-leb n 4095 (omega (arith, ints))) refl) (eq-eqb (suc n % 2) 0 (omega (arith, ints)))

pub branch_is : (z : ℤ) (o : Option ℤ) → MatchOption o (IsOffset 4096 z → ⊥) (λ i. (i ≡ z) × IsOffset 4096 i) → o ≡ offset_of 4096 z
unfolding offset_of
branch_is z o h = decided (fits_in 4096 z && is_even z) (IsOffset 4096) z o (branch_yes z) (branch_no z) h

jump_yes : (z : ℤ) → (fits_in 1048576 z && is_even z) ≡ true → IsOffset 1048576 z
jump_yes (pos n) e = let p = and_parts (ltb n 1048576) (eqb (n % 2) 0) e in let h : n < 1048576 = ltb-true _ _ p.0 in let k : n % 2 ≡ 0 = eqb-true _ _ p.1 in grind (arith, ints)
jump_yes (negsuc n) e = let p = and_parts (fits_in 1048576 (negsuc n)) (eqb (suc n % 2) 0) e in let h : n ≤ 1048575 = leb-true _ _ (and_parts (leb n 1048575) true p.0).0 in let k : suc n % 2 ≡ 0 = eqb-true _ _ p.1 in grind (arith, ints)

jump_no : (z : ℤ) → IsOffset 1048576 z → (fits_in 1048576 z && is_even z) ≡ true
jump_no (pos n) h = let a = h.high in let b = h.even in and_from (ltb n 1048576) (eqb (n % 2) 0) (lt-ltb n 1048576 (omega (arith, ints))) (eq-eqb (n % 2) 0 (omega (arith, ints)))
jump_no (negsuc n) h = let a = h.low in let b = h.even in and_from (fits_in 1048576 (negsuc n)) (eqb (suc n % 2) 0) (and_from (leb n 1048575) true (le-leb n 1048575 (omega (arith, ints))) refl) (eq-eqb (suc n % 2) 0 (omega (arith, ints)))

pub jump_is : (z : ℤ) (o : Option ℤ) → MatchOption o (IsOffset 1048576 z → ⊥) (λ i. (i ≡ z) × IsOffset 1048576 i) → o ≡ offset_of 1048576 z
unfolding offset_of
jump_is z o h = decided (fits_in 1048576 z && is_even z) (IsOffset 1048576) z o (jump_yes z) (jump_no z) h

-- ---- numbers from 0

below_no : (bound n : ℕ) → ltb n bound ≡ true → IsBelow bound (pos n)
below_no bound n e = let h = ltb-true _ _ e in grind (arith, ints)

chosen : (b : Bool) (n : ℕ) (o : Option ℕ) → MatchOption o (b ≡ true → ⊥) (λ m. (m ≡ n) × (b ≡ true)) → o ≡ cond b (Some n) None
chosen true n None h = absurd (h refl)
chosen true n (Some m) h = ap (λ x. Some x) h.0
chosen false n None h = refl
chosen false n (Some m) h = absurd cc

from_pos : (bound n : ℕ) (o : Option ℕ) → MatchOption o (IsBelow bound (pos n) → ⊥) (λ m. (pos m ≡ pos n) × (m < bound)) → MatchOption o (ltb n bound ≡ true → ⊥) (λ m. (m ≡ n) × (ltb n bound ≡ true))
from_pos bound n None h = λ e. h (below_no bound n e)
from_pos bound n (Some m) h = let e : m ≡ n = cc h.0 in (e, lt-ltb _ _ (omega (arith, h.1)))

pub below_is : (bound : ℕ) (z : ℤ) (o : Option ℕ) → MatchOption o (IsBelow bound z → ⊥) (λ m. (pos m ≡ z) × (m < bound)) → o ≡ below bound z
unfolding below
below_is bound (pos n) o h = chosen (ltb n bound) n o (from_pos bound n o h)
below_is bound (negsuc n) None h = refl
below_is bound (negsuc n) (Some m) h = let e = h.0 in absurd cc

-- ---- the same of a number's bits

pub immediate_bits : (z : ℤ) (o : Option ℤ) → SFits w64 z → MatchOption o (IsImmediate (to_z w64 (of_z w64 z)) → ⊥) (λ i. (i ≡ to_z w64 (of_z w64 z)) × IsImmediate i) → o ≡ immediate_of z
immediate_bits z o f h = immediate_is z o (subst (λ (y : ℤ). MatchOption o (IsImmediate y → ⊥) (λ i. (i ≡ y) × IsImmediate i)) (to_z-of_z w64 z f) h)

pub branch_bits : (z : ℤ) (o : Option ℤ) → SFits w64 z → MatchOption o (IsOffset 4096 (to_z w64 (of_z w64 z)) → ⊥) (λ i. (i ≡ to_z w64 (of_z w64 z)) × IsOffset 4096 i) → o ≡ offset_of 4096 z
branch_bits z o f h = branch_is z o (subst (λ (y : ℤ). MatchOption o (IsOffset 4096 y → ⊥) (λ i. (i ≡ y) × IsOffset 4096 i)) (to_z-of_z w64 z f) h)

pub jump_bits : (z : ℤ) (o : Option ℤ) → SFits w64 z → MatchOption o (IsOffset 1048576 (to_z w64 (of_z w64 z)) → ⊥) (λ i. (i ≡ to_z w64 (of_z w64 z)) × IsOffset 1048576 i) → o ≡ offset_of 1048576 z
jump_bits z o f h = jump_is z o (subst (λ (y : ℤ). MatchOption o (IsOffset 1048576 y → ⊥) (λ i. (i ≡ y) × IsOffset 1048576 i)) (to_z-of_z w64 z f) h)

pub below_bits : (bound : ℕ) (z : ℤ) (o : Option ℕ) → SFits w64 z → MatchOption o (IsBelow bound (to_z w64 (of_z w64 z)) → ⊥) (λ m. (pos m ≡ to_z w64 (of_z w64 z)) × (m < bound)) → o ≡ below bound z
below_bits bound z o f h = below_is bound z o (subst (λ (y : ℤ). MatchOption o (IsBelow bound y → ⊥) (λ m. (pos m ≡ y) × (m < bound))) (to_z-of_z w64 z f) h)

-- ---- registers

pub register_small : (word : List ℕ) (o : Option ℕ) → o ≡ register_of word → IfSome o (λ n. n < 32)
register_small word None e = tt
register_small word (Some n) e = ((registers_are_exact word n).0 (sym e)).0
