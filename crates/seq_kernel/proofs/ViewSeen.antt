-- What a process sees, block by block.
use Rattle.std.proofs.Common.{◌≡◌, ℕ, suc, ◌+◌, ◌/◌, ◌%◌, ◌<◌, length, Some, None, arith, refl, sym, subst, inl, inr}
use Rattle.std.specs.Prelude.{slice_index}
use Rattle.seq_words.specs.Description.{IsDescription}
use Rattle.seq_words.specs.declared.block.Block.{Block}
use Rattle.seq_words.specs.declared.description.MachineDesc.{MachineDesc}
use Rattle.seq_isa.specs.Meaning.{Bytes, number_at}
use Rattle.seq_rv32.specs.Widths.{IsWidth}
use Rattle.seq_flat.proofs.Seen.{number_at_same}
use Rattle.seq_layout.specs.declared.extents.Extent.{Extent}
use Rattle.seq_layout.specs.Places.{IsPlace}
use Rattle.seq_layout.specs.Shapes.{shape_of}
use Rattle.seq_segments.specs.Map.{mapped}
use Rattle.seq_kernel.specs.Views.{Blocks, seen}
use Rattle.seq_kernel.proofs.ViewMapped.{mapped_near, mapped_lies}

-- the bytes of a block, as a memory
abbrev pub in_block : Block → Bytes
in_block b = λ k. Some (slice_index b.bytes k)

-- an access of an aligned width stays in its block
pub near : (a width k : ℕ) → IsWidth width → a % width ≡ 0 → k < width → a % 32 + k < 32
near a width k (inl e) aligned lt = omega arith
near a width k (inr (inl e)) aligned lt =
    let even : a % 2 ≡ 0 = subst (λ w. a % w ≡ 0) e aligned in
    omega arith
near a width k (inr (inr e)) aligned lt =
    let whole : a % 4 ≡ 0 = subst (λ w. a % w ≡ 0) e aligned in
    omega arith

-- it is aligned in its block too
pub aligned_in_block : (a x width : ℕ) → IsWidth width → a % width ≡ 0 → x % 32 ≡ a % 32 → x % 32 % width ≡ 0
aligned_in_block a x width (inl e) aligned same = rw e (omega arith)
aligned_in_block a x width (inr (inl e)) aligned same =
    let even : a % 2 ≡ 0 = subst (λ w. a % w ≡ 0) e aligned in
    rw e (omega arith)
aligned_in_block a x width (inr (inr e)) aligned same =
    let whole : a % 4 ≡ 0 = subst (λ w. a % w ≡ 0) e aligned in
    rw e (omega arith)

module _ (d : MachineDesc) (p held : ℕ) (is : IsDescription d) (below : p < length d.processes) where
  -- a byte near one that is there
  pub seen_near : (o : Blocks) (a k : ℕ) (at : Extent × ℕ) → mapped d p held a ≡ Some at → a % 32 + k < 32 → seen d p held o (a + k) ≡ in_block (o at.0.0 (at.1 / 32)) (at.1 % 32 + k)
  unfolding seen
  seen_near o a k at found lt =
      let lies = mapped_lies d p held a at is below found in
      let block : (at.1 + k) / 32 ≡ at.1 / 32 = omega (arith, lies.aligned) in
      let byte : (at.1 + k) % 32 ≡ at.1 % 32 + k = omega (arith, lies.aligned) in
      rw (mapped_near d p held a k is below lt, found, block, byte) refl

  pub number_seen : (o : Blocks) (a width : ℕ) (at : Extent × ℕ) → mapped d p held a ≡ Some at → IsWidth width → a % width ≡ 0 → number_at (in_block (o at.0.0 (at.1 / 32))) (at.1 % 32) width ≡ number_at (seen d p held o) a width
  number_seen o a width at found wide aligned = sym (number_at_same (seen d p held o) (in_block (o at.0.0 (at.1 / 32))) a (at.1 % 32) width (λ k lt. seen_near o a k at found (near a width k wide aligned lt)))

  pub place_seen : (a : ℕ) (at : Extent × ℕ) → mapped d p held a ≡ Some at → IsPlace (shape_of d).blocks at.0.0 (at.1 / 32)
  place_seen a at found = (mapped_lies d p held a at is below found).place

  pub aligned_seen : (a width : ℕ) (at : Extent × ℕ) → mapped d p held a ≡ Some at → IsWidth width → a % width ≡ 0 → at.1 % 32 % width ≡ 0
  aligned_seen a width at found wide aligned = aligned_in_block a at.1 width wide aligned (mapped_lies d p held a at is below found).aligned

-- there is no number outside
outside_none : (f : Bytes) (a width : ℕ) → f a ≡ None → number_at f a (suc width) ≡ None
unfolding number_at
outside_none f a width e = rw e refl

outside : (f : Bytes) (a width : ℕ) → f a ≡ None → IsWidth width → number_at f a width ≡ None
outside f a width e (inl one) = rw one (outside_none f a 0 e)
outside f a width e (inr (inl two)) = rw two (outside_none f a 1 e)
outside f a width e (inr (inr four)) = rw four (outside_none f a 3 e)

pub number_outside : (d : MachineDesc) (p held : ℕ) (o : Blocks) (a width : ℕ) → mapped d p held a ≡ None → IsWidth width → number_at (seen d p held o) a width ≡ None
unfolding seen
number_outside d p held o a width missing wide = outside (seen d p held o) a width (rw missing refl) wide
