-- A store in the cache is the store in the memory that the process sees.
use Rattle.std.proofs.Common.{◌≡◌, ◌≢◌, ℕ, zero, suc, ◌+◌, ◌-◌, ◌*◌, ◌/◌, ◌%◌, ◌<◌, ◌≤◌, ◌⊎◌, Bool, true, false, ◌&&◌, cond, length, Option, Some, None, is_none, option_map, arith, refl, sym, ◌∙◌, ap, subst, inl, inr, rules}
use Rattle.std.specs.Prelude.{nat_lt, nat_le, ◌==◌, IsSome, slice_index}
use Rattle.std.specs.Int.{byte_at}
use Rattle.std.proofs.lemmas.Bool.{cases_lt, cases_eq, eq-eqb, ne_eqb, le-leb, lt-leb, lt-ltb, le-ltb, and_right}
use mathlib.Core.Path.{fun_ext}
use Rattle.seq_words.specs.Description.{IsDescription}
use Rattle.seq_words.specs.declared.block.Block.{Block}
use Rattle.seq_words.specs.declared.description.MachineDesc.{MachineDesc}
use Rattle.seq_isa.specs.Meaning.{Bytes, number_at, stored}
use Rattle.seq_rv32.specs.Widths.{IsWidth}
use Rattle.seq_rv32.specs.declared.port.Admit.{Admit}
use Rattle.seq_rv32.specs.declared.port.Admit.TheVariants.{Fits, Outside, Full}
use Rattle.seq_layout.specs.declared.extents.Extent.{Extent}
use Rattle.seq_segments.specs.Map.{mapped}
use Rattle.seq_layout.specs.Shapes.{shape_of}
use Rattle.seq_layout.specs.Copies.{Copies}
use Rattle.seq_cache.specs.Changes.{Changes, admits, with_change}
use Rattle.seq_cache.proofs.LawsHold.{put_is_read_at_one_block}
use Rattle.seq_kernel.specs.Views.{Blocks, byte_in, seen, read_by, admission_at, admission}
use Rattle.seq_kernel.proofs.ViewMapped.{LiesAt, mapped_lies, same_distance}
use Rattle.seq_kernel.proofs.ViewSeen.{in_block, near, seen_near, number_seen, number_outside}

-- a number in a block is there
number_in_block : (b : Block) (x width : ℕ) → is_none (number_at (in_block b) x width) ≡ false
unfolding number_at
number_in_block b x zero = refl
number_in_block b x (suc width) = go (number_at (in_block b) (x + 1) width) (number_in_block b (x + 1) width)
  where
    go : (n : Option ℕ) → is_none n ≡ false → is_none (option_map (λ n. slice_index b.bytes x + 256 * n) n) ≡ false
    go (Some n) e = refl
    go None e = e

-- where a place is there, so is each number, and elsewhere none
pub outside_alone : (d : MachineDesc) (p held : ℕ) (o : Blocks) (a width : ℕ) → IsDescription d → p < length d.processes → IsWidth width → a % width ≡ 0 → is_none (number_at (seen d p held o) a width) ≡ is_none (mapped d p held a)
outside_alone d p held o a width is below wide aligned = go (mapped d p held a) refl
  where
    go : (m : Option (Extent × ℕ)) → mapped d p held a ≡ m → is_none (number_at (seen d p held o) a width) ≡ is_none (mapped d p held a)
    go (Some at) e = rw (← number_seen d p held is below o a width at e wide aligned, e) (number_in_block (o at.0.0 (at.1 / 32)) (at.1 % 32) width)
    go None e = rw (number_outside d p held o a width e wide, e) refl

-- two memories of blocks differ in one block alone
pub record DifferAt (o q : Blocks) (e n : ℕ) (c : Block) : Type 0 where
  pub block : (e' n' : ℕ) → q e' n' ≡ cond (e' == e && n' == n) c (o e' n')

differ_here : (o q : Blocks) (e n e' n' : ℕ) (c : Block) → DifferAt o q e n c → e' ≡ e → n' ≡ n → q e' n' ≡ c
differ_here o q e n e' n' c differ same_extent same_block = rw (differ.block e' n', eq-eqb e' e same_extent, eq-eqb n' n same_block) refl

differ_extent : (o q : Blocks) (e n e' n' : ℕ) (c : Block) → DifferAt o q e n c → e' ≢ e → q e' n' ≡ o e' n'
differ_extent o q e n e' n' c differ other = rw (differ.block e' n', ne_eqb e' e other) refl

differ_block : (o q : Blocks) (e n e' n' : ℕ) (c : Block) → DifferAt o q e n c → n' ≢ n → q e' n' ≡ o e' n'
differ_block o q e n e' n' c differ other = rw (differ.block e' n', ne_eqb n' n other, and_right (e' == e) false refl) refl

-- the bytes of a block after a store
pub record IsStored (b c : Block) (x width v : ℕ) : Type 0 where
  pub each : (k : ℕ) → slice_index c.bytes k ≡ cond (nat_le x k && nat_lt k (x + width)) (byte_at (k - x) v) (slice_index b.bytes k)

byte_inside : (b c : Block) (x width v k : ℕ) → IsStored b c x width v → k < width → slice_index c.bytes (x + k) ≡ byte_at k v
byte_inside b c x width v k put lt =
    let e : x + k - x ≡ k = omega arith in
    rw (put.each (x + k), le-leb x (x + k) (omega arith), lt-ltb (x + k) (x + width) (omega arith), e) refl

byte_outside : (b c : Block) (x width v k : ℕ) → IsStored b c x width v → (k < x) ⊎ (x + width ≤ k) → slice_index c.bytes k ≡ slice_index b.bytes k
byte_outside b c x width v k put (inl low) = rw (put.each k, lt-leb x k low) refl
byte_outside b c x width v k put (inr past) = rw (put.each k, le-ltb k (x + width) past, and_right (nat_le x k) false refl) refl

-- an address inside a store, and one outside
store_inside : (f : Bytes) (a width v k : ℕ) → k < width → stored f a width v (a + k) ≡ Some (byte_at k v)
unfolding stored
store_inside f a width v k lt =
    let e : a + k - a ≡ k = omega arith in
    rw (le-leb a (a + k) (omega arith), lt-ltb (a + k) (a + width) (omega arith), e) refl

store_outside : (f : Bytes) (a width v b : ℕ) → (b < a) ⊎ (a + width ≤ b) → stored f a width v b ≡ f b
unfolding stored
store_outside f a width v b (inl low) = rw (lt-leb a b low) refl
store_outside f a width v b (inr past) = rw (le-ltb b (a + width) past, and_right (nat_le a b) false refl) refl

-- an address that lies in the block of a store, but not in the store
apart : (a b x y width : ℕ) → a + y ≡ b + x → y / 32 ≡ x / 32 → (b < a) ⊎ (a + width ≤ b) → (y % 32 < x % 32) ⊎ (x % 32 + width ≤ y % 32)
apart a b x y width same block (inl low) = inl (omega arith)
apart a b x y width same block (inr past) = inr (omega arith)

module _ (d : MachineDesc) (p held : ℕ) (is : IsDescription d) (below : p < length d.processes) (o q : Blocks) (a width v : ℕ) (wide : IsWidth width) (aligned : a % width ≡ 0) where
  -- an address of the store
  seen_inside : (at : Extent × ℕ) (c : Block) (k : ℕ) → mapped d p held a ≡ Some at → DifferAt o q at.0.0 (at.1 / 32) c → IsStored (o at.0.0 (at.1 / 32)) c (at.1 % 32) width v → k < width → seen d p held q (a + k) ≡ stored (seen d p held o) a width v (a + k)
  seen_inside at c k found differ put lt =
      seen_near d p held is below q a k at found (near a width k wide aligned lt)
      ∙ ap (λ (b : Block). in_block b (at.1 % 32 + k)) (differ_here o q at.0.0 (at.1 / 32) at.0.0 (at.1 / 32) c differ refl refl)
      ∙ ap (λ (n : ℕ). Some n) (byte_inside (o at.0.0 (at.1 / 32)) c (at.1 % 32) width v k put lt)
      ∙ sym (store_inside (seen d p held o) a width v k lt)

  byte_elsewhere : (at bt : Extent × ℕ) (c : Block) (b : ℕ) → mapped d p held a ≡ Some at → mapped d p held b ≡ Some bt → DifferAt o q at.0.0 (at.1 / 32) c → IsStored (o at.0.0 (at.1 / 32)) c (at.1 % 32) width v → (b < a) ⊎ (a + width ≤ b) → byte_in q bt.0.0 bt.1 ≡ byte_in o bt.0.0 bt.1
  byte_elsewhere at bt c b found there differ put out =
      let byte : Block → ℕ = λ (c : Block). slice_index c.bytes (bt.1 % 32) in
      elim (cases_eq bt.0.0 at.0.0) [
        | inl extent ↦ elim (cases_eq (bt.1 / 32) (at.1 / 32)) [
          | inl block ↦
              let lies : LiesAt d p b at.0.0 bt.1 = subst (λ e. LiesAt d p b e bt.1) extent (mapped_lies d p held b bt is below there) in
              let distance = same_distance d p a b at.0.0 at.1 bt.1 (mapped_lies d p held a at is below found) lies in
              ap byte (differ_here o q at.0.0 (at.1 / 32) bt.0.0 (bt.1 / 32) c differ extent block)
              ∙ byte_outside (o at.0.0 (at.1 / 32)) c (at.1 % 32) width v (bt.1 % 32) put (apart a b at.1 bt.1 width distance block out)
              ∙ sym (ap byte (ap (λ e. o e (bt.1 / 32)) extent ∙ ap (o at.0.0) block))
          | inr other ↦ ap byte (differ_block o q at.0.0 (at.1 / 32) bt.0.0 (bt.1 / 32) c differ other)
        ]
        | inr other ↦ ap byte (differ_extent o q at.0.0 (at.1 / 32) bt.0.0 (bt.1 / 32) c differ other)
      ]

  -- any other
  seen_outside : (at : Extent × ℕ) (c : Block) (b : ℕ) → mapped d p held a ≡ Some at → DifferAt o q at.0.0 (at.1 / 32) c → IsStored (o at.0.0 (at.1 / 32)) c (at.1 % 32) width v → (b < a) ⊎ (a + width ≤ b) → seen d p held q b ≡ seen d p held o b
  unfolding seen
  seen_outside at c b found differ put out = go (mapped d p held b) refl
    where
      go : (m : Option (Extent × ℕ)) → mapped d p held b ≡ m → seen d p held q b ≡ seen d p held o b
      go (Some bt) e = rw e (ap (λ (n : ℕ). Some n) (byte_elsewhere at bt c b found e differ put out))
      go None e = rw e refl

  pub store_seen : (at : Extent × ℕ) (c : Block) → mapped d p held a ≡ Some at → DifferAt o q at.0.0 (at.1 / 32) c → IsStored (o at.0.0 (at.1 / 32)) c (at.1 % 32) width v → seen d p held q ≡ stored (seen d p held o) a width v
  store_seen at c found differ put =
      let other : (b : ℕ) → (b < a) ⊎ (a + width ≤ b) → seen d p held q b ≡ stored (seen d p held o) a width v b = λ b out. seen_outside at c b found differ put out ∙ sym (store_outside (seen d p held o) a width v b out) in
      fun_ext (λ b. elim (cases_lt b a) [
        | inl low ↦ other b (inl low)
        | inr from ↦ elim (cases_lt b (a + width)) [
          | inl within ↦
              let e : a + (b - a) ≡ b = omega arith in
              subst (λ b. seen d p held q b ≡ stored (seen d p held o) a width v b) e (seen_inside at c (b - a) found differ put (omega arith))
          | inr past ↦ other b (inr past)
        ]
      ])

-- where a store fits, its place is there, its block is admitted, and its bytes are in it
if_fits : (b : Bool) → cond b Fits Full ≡ Fits → b ≡ true
if_fits true e = refl
if_fits false e = absurd (let c : ◌≡◌ {A = Admit} Full Fits = e in cc)

pub fits_there : (d : MachineDesc) (p held : ℕ) (c : Changes) (a width : ℕ) → admission d p held c a width ≡ Fits → IsSome (mapped d p held a)
unfolding admission
fits_there d p held c a width fits = go (mapped d p held a) fits
  where
    go : (m : Option (Extent × ℕ)) → admission_at c m ≡ Fits → IsSome m
    go (Some at) e = search rules
    go None e = absurd (let c : ◌≡◌ {A = Admit} Outside Fits = e in cc)

pub fits_admitted : (d : MachineDesc) (p held : ℕ) (c : Changes) (a width : ℕ) (at : Extent × ℕ) → mapped d p held a ≡ Some at → admission d p held c a width ≡ Fits → admits c at.0.0 (at.1 / 32) ≡ true
unfolding admission
fits_admitted d p held c a width at found fits = if_fits (admits c at.0.0 (at.1 / 32)) (ap (admission_at c) (sym found) ∙ fits)

pub inside_block : (d : MachineDesc) (p held : ℕ) → IsDescription d → p < length d.processes → (a width : ℕ) (at : Extent × ℕ) → mapped d p held a ≡ Some at → IsWidth width → a % width ≡ 0 → at.1 % 32 + width ≤ 32
inside_block d p held is below a width at found wide aligned =
    let lies = mapped_lies d p held a at is below found in
    let last : a % 32 + (width - 1) < 32 = near a width (width - 1) wide aligned (before width wide) in
    omega (arith, lies.aligned, last)
  where
    before : (w : ℕ) → IsWidth w → w - 1 < w
    before w (inl e) = omega arith
    before w (inr (inl e)) = omega arith
    before w (inr (inr e)) = omega arith

-- after a write to the cache, reads differ in one block alone
pub written_differs : (d : MachineDesc) (p : Copies) (c after : Changes) (e n : ℕ) (b : Block) → after ≡ with_change c e n b → DifferAt (read_by d p c) (read_by d p after) e n b
written_differs d p c after e n b is = record {
  block = λ e' n'. ap (λ (k : Changes). read_by d p k e' n') is ∙ put_is_read_at_one_block (shape_of d) p c.changes e n b e' n';
}
