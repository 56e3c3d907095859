-- Numbers in a block, and what a store leaves of it.
use Rattle.std.proofs.Common.{◌≡◌, ℕ, zero, suc, ◌+◌, ◌-◌, ◌<◌, ◌≤◌, ◌&&◌, cond, List, length, get_or, arith, refl, ◌∙◌, inl, inr, get_or-set_same, get_or-set_other}
use Rattle.std.specs.Prelude.{nat_le, nat_lt}
use Rattle.std.specs.Int.{byte_at}
use Rattle.std.proofs.lemmas.Bool.{cases_eq}
use Rattle.std.proofs.lemmas.Bool.Decides.{nat_tests}
use Rattle.seq_rv32.specs.ByteMemory.{bytes_stored}
use Rattle.seq_rv32.proofs.Numbers.{bytes_stored_length}

-- one more byte of a store
one_more : (at width k v x : ℕ) → (k ≡ at + width → ⊥) → cond (nat_le at k && nat_lt k (at + width)) v x ≡ cond (nat_le at k && nat_lt k (at + suc width)) v x
one_more at width k v x other = grind (arith, nat_tests)

last_one : (at width k v x : ℕ) → k ≡ at + width → v ≡ cond (nat_le at k && nat_lt k (at + suc width)) v x
last_one at width k v x here = grind (arith, nat_tests)

none_stored : (at k v x : ℕ) → x ≡ cond (nat_le at k && nat_lt k (at + 0)) v x
none_stored at k v x = grind (arith, nat_tests)

same_byte : (at width v x : ℕ) → cond (nat_le at (at + width) && nat_lt (at + width) (at + suc width)) (byte_at width v) x ≡ cond (nat_le at (at + width) && nat_lt (at + width) (at + suc width)) (byte_at (at + width - at) v) x
same_byte at width v x = let e : at + width - at ≡ width = omega arith in rw e refl

-- a byte of a list after a store
pub stored_index : (xs : List ℕ) (at width v k : ℕ) → at + width ≤ length xs → get_or (bytes_stored xs at width v) k 0 ≡ cond (nat_le at k && nat_lt k (at + width)) (byte_at (k - at) v) (get_or xs k 0)
unfolding bytes_stored
stored_index xs at zero v k inside = none_stored at k (byte_at (k - at) v) (get_or xs k 0)
stored_index xs at (suc width) v k inside = elim (cases_eq k (at + width)) [
  | inl here ↦
      let within : at + width < length (bytes_stored xs at width v) = rw bytes_stored_length (omega arith) in
      rw here (get_or-set_same (bytes_stored xs at width v) (at + width) (byte_at width v) 0 within ∙ last_one at width (at + width) (byte_at width v) (get_or xs (at + width) 0) refl ∙ same_byte at width v (get_or xs (at + width) 0))
  | inr other ↦
      get_or-set_other (bytes_stored xs at width v) (at + width) k (byte_at width v) 0 other
      ∙ stored_index xs at width v k (omega arith)
      ∙ one_more at width k (byte_at (k - at) v) (get_or xs k 0) other
]
