-- Bytes that are gathered from a memory, one after the other.
use Rattle.std.proofs.Common.{◌≡◌, ℕ, zero, suc, ◌+◌, ◌-◌, ◌%◌, ◌^◌, ◌<◌, Some, None, List, length, take, set, arith, refl, sym, ap, add-one, subst}
use Rattle.std.proofs.Math.Seq.{take-suc-set}
use Rattle.seq_isa.specs.Meaning.{Bytes}
use Rattle.seq_flat.specs.Memory.{bytes_from}

pub gathered_first : (memory : Bytes) (at : ℕ) (xs : List ℕ) → bytes_from memory at 0 ≡ Some (take 0 xs)
unfolding bytes_from
gathered_first memory at xs = refl

-- one byte more
pub gathered_more : (memory : Bytes) (at n b : ℕ) (xs : List ℕ) → bytes_from memory at n ≡ Some (take n xs) → memory ((at + n) % 2 ^ 32) ≡ Some b → n < length xs → bytes_from memory at (n + 1) ≡ Some (take (n + 1) (set xs n b))
unfolding bytes_from
gathered_more memory at n b xs before byte lt = rw (add-one, before, byte) (ap Some (sym (take-suc-set xs n b lt)))

-- where a byte is outside, so are all bytes together
none_up : (memory : Bytes) (at n k : ℕ) → bytes_from memory at n ≡ None → bytes_from memory at (k + n) ≡ None
unfolding bytes_from
none_up memory at n zero none = let e : 0 + n ≡ n = omega arith in rw e none
none_up memory at n (suc k) none =
    let e : suc k + n ≡ suc (k + n) = omega arith in
    rw (e, none_up memory at n k none) refl

pub gathered_none : (memory : Bytes) (at n count : ℕ) (xs : List ℕ) → bytes_from memory at n ≡ Some xs → memory ((at + n) % 2 ^ 32) ≡ None → n < count → bytes_from memory at count ≡ None
unfolding bytes_from
gathered_none memory at n count xs before none lt =
    let here : bytes_from memory at (suc n) ≡ None = rw (before, none) refl in
    let e : count - suc n + suc n ≡ count = omega arith in
    subst (λ k. bytes_from memory at k ≡ None) e (none_up memory at (suc n) (count - suc n) here)
