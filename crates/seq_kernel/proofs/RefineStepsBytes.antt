-- A store in the blocks of an extent, byte by byte.
use Rattle.std.proofs.Common.{◌≡◌, ◌≢◌, ◌⊎◌, ℕ, ◌+◌, ◌-◌, ◌/◌, ◌%◌, ◌<◌, ◌≤◌, Bool, true, false, ◌&&◌, if◌then◌else◌, nat_le, nat_lt, List, length, slice_get, slice_index, Option, Some, unwrap_or, arith, refl, sym, ◌∙◌, ap, subst, inl, inr}
use Rattle.std.proofs.lemmas.Bool.{cases_eq, eq-eqb, ne_eqb}
use Rattle.std.proofs.lemmas.Bool.Decides.{nat_tests}
use Rattle.std.proofs.lemmas.Option.{unwrap_or-slice_get}
use Rattle.std.specs.Int.{byte_at}
use Rattle.seq_words.specs.declared.block.Block.{Block}
use Rattle.seq_words.specs.declared.description.MachineDesc.{MachineDesc}
use Rattle.seq_isa.specs.Meaning.{stored}
use Rattle.seq_rv32.specs.Widths.{IsWidth}
use Rattle.seq_rv32.specs.ByteMemory.{bytes_stored}
use Rattle.seq_rv32.proofs.Numbers.{bytes_stored_is, bytes_stored_length}
use Rattle.seq_layout.specs.Shapes.{shape_of}
use Rattle.seq_layout.specs.Copies.{Copies}
use Rattle.seq_cache.specs.Changes.{Changes, with_change}
use Rattle.seq_cache.proofs.LawsHold.{put_is_read_at_one_block}
use Rattle.seq_kernel.specs.Views.{Blocks, read_by, byte_in, block_stored}
use Rattle.seq_kernel.specs.Shown.{HoldBytes}

-- bytes by their places, after the low bytes of a number are put at a place
abbrev pub put_over : (ℕ → ℕ) → ℕ → ℕ → ℕ → ℕ → ℕ
put_over f at width v k = if nat_le at k && nat_lt k (at + width) then byte_at (k - at) v else f k

-- a byte elsewhere stays
pub put_out : (f : ℕ → ℕ) (at width v k : ℕ) → (k < at) ⊎ (at + width ≤ k) → put_over f at width v k ≡ f k
put_out f at width v k (inl low) = grind (arith, nat_tests)
put_out f at width v k (inr high) = grind (arith, nat_tests)

-- the same store in two rows of bytes, one moved against the other
pub put_moved : (f g : ℕ → ℕ) (at b width v k j : ℕ) → k + b ≡ j + at → f k ≡ g j → put_over f at width v k ≡ put_over g b width v j
put_moved f g at b width v k j moved same = grind (arith, nat_tests)

-- the bytes of a list after a store in it, one by one
unwrapped : (t : Bool) (x : ℕ) (o : Option ℕ) → unwrap_or (if t then Some x else o) 0 ≡ (if t then x else unwrap_or o 0)
unwrapped true x o = refl
unwrapped false x o = refl

stored_or : (xs : List ℕ) (at width v k : ℕ) → unwrap_or (stored (slice_get xs) at width v k) 0 ≡ put_over (λ i. unwrap_or (slice_get xs i) 0) at width v k
unfolding stored
stored_or xs at width v k = unwrapped (nat_le at k && nat_lt k (at + width)) (byte_at (k - at) v) (slice_get xs k)

pub bytes_stored_at : (xs : List ℕ) (at width v k : ℕ) → at + width ≤ length xs → slice_index (bytes_stored xs at width v) k ≡ put_over (slice_index xs) at width v k
bytes_stored_at xs at width v k inside =
    sym (unwrap_or-slice_get (bytes_stored xs at width v) k 0)
    ∙ ap (λ (f : ℕ → Option ℕ). unwrap_or (f k) 0) (bytes_stored_is xs at width v inside)
    ∙ stored_or xs at width v k
    ∙ put_moved (λ i. unwrap_or (slice_get xs i) 0) (slice_index xs) at at width v k k refl (unwrap_or-slice_get xs k 0)

-- what is read after a store at place x of extent e
abbrev pub read_after : MachineDesc → Copies → Changes → ℕ → ℕ → ℕ → ℕ → Blocks
read_after d p c e x width v = read_by d p (with_change c e (x / 32) (block_stored (read_by d p c e (x / 32)) (x % 32) width v))

-- a store of an aligned width stays in one block
pub in_one_block : (x width : ℕ) → IsWidth width → x % width ≡ 0 → x % 32 + width ≤ 32
in_one_block x width (inl e) aligned = omega arith
in_one_block x width (inr (inl e)) aligned = let even : x % 2 ≡ 0 = subst (λ w. x % w ≡ 0) e aligned in omega arith
in_one_block x width (inr (inr e)) aligned = let four : x % 4 ≡ 0 = subst (λ w. x % w ≡ 0) e aligned in omega arith

read_here : (d : MachineDesc) (p : Copies) (c : Changes) (e x width v n : ℕ) → n ≡ x / 32 → read_after d p c e x width v e n ≡ block_stored (read_by d p c e (x / 32)) (x % 32) width v
read_here d p c e x width v n here =
    put_is_read_at_one_block (shape_of d) p c.changes e (x / 32) (block_stored (read_by d p c e (x / 32)) (x % 32) width v) e n
    ∙ (rw (eq-eqb e e refl, eq-eqb n (x / 32) here) refl)

read_other_block : (d : MachineDesc) (p : Copies) (c : Changes) (e x width v n : ℕ) → n ≢ x / 32 → read_after d p c e x width v e n ≡ read_by d p c e n
read_other_block d p c e x width v n other =
    put_is_read_at_one_block (shape_of d) p c.changes e (x / 32) (block_stored (read_by d p c e (x / 32)) (x % 32) width v) e n
    ∙ (rw (eq-eqb e e refl, ne_eqb n (x / 32) other) refl)

read_other_extent : (d : MachineDesc) (p : Copies) (c : Changes) (e x width v e' n : ℕ) → e' ≢ e → read_after d p c e x width v e' n ≡ read_by d p c e' n
read_other_extent d p c e x width v e' n other =
    put_is_read_at_one_block (shape_of d) p c.changes e (x / 32) (block_stored (read_by d p c e (x / 32)) (x % 32) width v) e' n
    ∙ (rw (ne_eqb e' e other) refl)

-- every block still has its bytes
pub read_whole : (d : MachineDesc) (p : Copies) (c : Changes) (e x width v : ℕ) → ((e' n : ℕ) → length (read_by d p c e' n).bytes ≡ 32) → (e' n : ℕ) → length (read_after d p c e x width v e' n).bytes ≡ 32
read_whole d p c e x width v whole e' n = elim (cases_eq e' e) [
  | inl same ↦ elim (cases_eq n (x / 32)) [
    | inl here ↦
        ap (λ extent. length (read_after d p c e x width v extent n).bytes) same
        ∙ ap (λ (b : Block). length b.bytes) (read_here d p c e x width v n here)
        ∙ bytes_stored_length (read_by d p c e (x / 32)).bytes (x % 32) width v
        ∙ whole e (x / 32)
    | inr other ↦
        ap (λ extent. length (read_after d p c e x width v extent n).bytes) same
        ∙ ap (λ (b : Block). length b.bytes) (read_other_block d p c e x width v n other)
        ∙ whole e n
  ]
  | inr apart ↦ ap (λ (b : Block). length b.bytes) (read_other_extent d p c e x width v e' n apart) ∙ whole e' n
]

-- a byte of the extent after the store
same_block : (x q : ℕ) → q / 32 ≡ x / 32 → q + x % 32 ≡ q % 32 + x
same_block x q same = omega arith

out_of_block : (x width q : ℕ) → x % 32 + width ≤ 32 → q / 32 ≢ x / 32 → (q < x) ⊎ (x + width ≤ q)
out_of_block x width q whole other = grind arith

pub byte_after : (d : MachineDesc) (p : Copies) (c : Changes) (e x width v q : ℕ) → ((n : ℕ) → length (read_by d p c e n).bytes ≡ 32) → x % 32 + width ≤ 32 → byte_in (read_after d p c e x width v) e q ≡ put_over (byte_in (read_by d p c) e) x width v q
byte_after d p c e x width v q whole inside = elim (cases_eq (q / 32) (x / 32)) [
  | inl here ↦
      let block : Block = read_by d p c e (x / 32) in
      let size : length block.bytes ≡ 32 = whole (x / 32) in
      ap (λ (b : Block). slice_index b.bytes (q % 32)) (read_here d p c e x width v (q / 32) here)
      ∙ bytes_stored_at block.bytes (x % 32) width v (q % 32) (omega arith)
      ∙ sym (put_moved (byte_in (read_by d p c) e) (slice_index block.bytes) x (x % 32) width v q (q % 32) (same_block x q here) (ap (λ n. slice_index (read_by d p c e n).bytes (q % 32)) here))
  | inr other ↦
      ap (λ (b : Block). slice_index b.bytes (q % 32)) (read_other_block d p c e x width v (q / 32) other)
      ∙ sym (put_out (byte_in (read_by d p c) e) x width v q (out_of_block x width q inside other))
]

pub byte_elsewhere : (d : MachineDesc) (p : Copies) (c : Changes) (e x width v e' q : ℕ) → e' ≢ e → byte_in (read_after d p c e x width v) e' q ≡ byte_in (read_by d p c) e' q
byte_elsewhere d p c e x width v e' q apart = ap (λ (b : Block). slice_index b.bytes (q % 32)) (read_other_extent d p c e x width v e' (q / 32) apart)

-- bytes that an extent holds are stored to as the list is
pub hold_stored : (d : MachineDesc) (p : Copies) (c : Changes) (e from x at width v : ℕ) (xs : List ℕ) → ((n : ℕ) → length (read_by d p c e n).bytes ≡ 32) → HoldBytes (read_by d p c) e from xs → x ≡ from + at → x % 32 + width ≤ 32 → at + width ≤ length xs → HoldBytes (read_after d p c e x width v) e from (bytes_stored xs at width v)
hold_stored d p c e from x at width v xs whole holds place block inside = record {
  each = λ k lt.
      let there : k < length xs = (let n = bytes_stored_length xs at width v in omega arith) in
      byte_after d p c e x width v (from + k) whole block
      ∙ put_moved (byte_in (read_by d p c) e) (slice_index xs) x at width v (from + k) k (omega arith) (holds.each k there)
      ∙ sym (bytes_stored_at xs at width v k inside);
}

pub hold_elsewhere : (d : MachineDesc) (p : Copies) (c : Changes) (e x width v e' from : ℕ) (xs : List ℕ) → e' ≢ e → HoldBytes (read_by d p c) e' from xs → HoldBytes (read_after d p c e x width v) e' from xs
hold_elsewhere d p c e x width v e' from xs apart holds = record {
  each = λ k lt. byte_elsewhere d p c e x width v e' (from + k) apart ∙ holds.each k lt;
}
