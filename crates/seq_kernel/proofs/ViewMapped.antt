-- Where the addresses of a process lie.
use Rattle.std.proofs.Common.{◌≡◌, ℕ, ◌+◌, ◌-◌, ◌*◌, ◌/◌, ◌%◌, ◌<◌, ◌≤◌, Bool, true, false, ◌&&◌, cond, length, Option, Some, None, option_map, arith, refl, sym, ◌∙◌, subst, inl, inr}
use Rattle.std.specs.Prelude.{nat_lt}
use Rattle.std.proofs.lemmas.Bool.{cases_lt, lt-ltb, le-ltb, ltb-true, and_parts}
use Rattle.std.proofs.lemmas.List.Elements.{All-get_or}
use Rattle.seq_words.specs.Masks.{has_bit}
use Rattle.seq_words.specs.Description.{IsDescription, IsProcess, IsSegment, no_process, no_segment, process_of, segment_of}
use Rattle.seq_words.specs.declared.description.MachineDesc.{MachineDesc}
use Rattle.seq_layout.specs.declared.extents.Extent.{Extent}
use Rattle.seq_layout.specs.Places.{IsPlace}
use Rattle.seq_layout.specs.Shapes.{shape_of}
use Rattle.seq_layout.proofs.Sizes.{process_has_blocks, segment_has_blocks}
use Rattle.seq_segments.specs.Map.{before_private, mapped_shared, mapped}

-- a process and a segment have whole blocks
process_whole : (d : MachineDesc) (p : ℕ) → IsDescription d → p < length d.processes → (process_of d p).size % 32 ≡ 0
process_whole d p is below = (All-get_or (IsProcess (length d.segments)) d.processes p no_process below is.each_process).size.whole

segment_whole : (d : MachineDesc) (s : ℕ) → IsDescription d → s < length d.segments → (segment_of d s).size % 32 ≡ 0
segment_whole d s is below = (All-get_or IsSegment d.segments s no_segment below is.each_segment).size.whole

-- what lies below a bound of whole blocks lies there with the rest of its block
below_near : (n a k : ℕ) → n % 32 ≡ 0 → a % 32 + k < 32 → nat_lt (a + k) n ≡ nat_lt a n
below_near n a k whole near = elim (cases_lt a n) [
  | inl low ↦ lt-ltb (a + k) n (omega arith) ∙ sym (lt-ltb a n low)
  | inr past ↦ le-ltb (a + k) n (omega arith) ∙ sym (le-ltb a n past)
]

-- a place, moved on by so many bytes
abbrev pub moved : ℕ → Extent × ℕ → Extent × ℕ
moved k at = (at.0, at.1 + k)

cond_moved : (b c : Bool) (k : ℕ) (at : Extent × ℕ) → b ≡ c → cond b (Some (moved k at)) None ≡ option_map (moved k) (cond c (Some at) None)
cond_moved b true k at e = rw e refl
cond_moved b false k at e = rw e refl

same_and : (t u v : Bool) → (t ≡ true → u ≡ v) → (t && u) ≡ (t && v)
same_and true u v same = same refl
same_and false u v same = refl

shared_near : (d : MachineDesc) (held s o k : ℕ) → IsDescription d → o % 32 + k < 32 → mapped_shared d held s (o + k) ≡ option_map (moved k) (mapped_shared d held s o)
shared_near d held s o k is near =
    let t = nat_lt s (length d.segments) && has_bit held s in
    let size = (segment_of d s).size in
    cond_moved (t && nat_lt (o + k) size) (t && nat_lt o size) k (record { 0 = length d.processes + s }, o) (same_and t (nat_lt (o + k) size) (nat_lt o size) (λ there. below_near size o k (segment_whole d s is (ltb-true s (length d.segments) (and_parts (nat_lt s (length d.segments)) (has_bit held s) there).0)) near))

-- the addresses of a block lie one behind another in a block
pub mapped_near : (d : MachineDesc) (p held a k : ℕ) → IsDescription d → p < length d.processes → a % 32 + k < 32 → mapped d p held (a + k) ≡ option_map (moved k) (mapped d p held a)
unfolding mapped
mapped_near d p held a k is below near =
    let size = (process_of d p).size in
    let whole : size % 32 ≡ 0 = process_whole d p is below in
    elim (cases_lt a size) [
      | inl low ↦
          let low_too : a + k < size = omega arith in
          let e : before_private (process_of d p) + (a + k) ≡ before_private (process_of d p) + a + k = omega arith in
          rw (lt-ltb a size low, lt-ltb (a + k) size low_too, e) refl
      | inr past ↦ elim (cases_lt a 0x40000000) [
        | inl gap ↦
            let past_too : size ≤ a + k = omega arith in
            let gap_too : a + k < 0x40000000 = omega arith in
            rw (le-ltb a size past, le-ltb (a + k) size past_too, lt-ltb a 0x40000000 gap, lt-ltb (a + k) 0x40000000 gap_too) refl
        | inr high ↦
            let past_too : size ≤ a + k = omega arith in
            let high_too : 0x40000000 ≤ a + k = omega arith in
            let segment : (a + k - 0x40000000) / 0x10000 ≡ (a - 0x40000000) / 0x10000 = omega arith in
            let offset : (a + k - 0x40000000) % 0x10000 ≡ (a - 0x40000000) % 0x10000 + k = omega arith in
            let inner : (a - 0x40000000) % 0x10000 % 32 + k < 32 = omega arith in
            rw (le-ltb a size past, le-ltb (a + k) size past_too, le-ltb a 0x40000000 high, le-ltb (a + k) 0x40000000 high_too, segment, offset) (shared_near d held ((a - 0x40000000) / 0x10000) ((a - 0x40000000) % 0x10000) k is inner)
      ]
    ]

-- the first byte of an extent has this address, less what stands before the bytes that have addresses
abbrev up : MachineDesc → ℕ → ℕ
up d e = cond (nat_lt e (length d.processes)) 0 (0x40000000 + 0x10000 * (e - length d.processes))

abbrev down : MachineDesc → ℕ → ℕ → ℕ
down d p e = cond (nat_lt e (length d.processes)) (before_private (process_of d p)) 0

-- byte x of extent e has address a
pub record LiesAt (d : MachineDesc) (p a e x : ℕ) : Type 0 where
  pub place : IsPlace (shape_of d).blocks e (x / 32)
  pub aligned : x % 32 ≡ a % 32
  pub address : a + down d p e ≡ x + up d e

abbrev LiesAtPlace : MachineDesc → ℕ → ℕ → Extent × ℕ → Type 0
LiesAtPlace d p a at = LiesAt d p a at.0.0 at.1

some_same : {A : Type 0} (P : A → Type 0) (x y : A) → Some x ≡ Some y → P x → P y
some_same P x y e px = let same : x ≡ y = cc in subst P same px

private_lies : (d : MachineDesc) (p a : ℕ) → IsDescription d → p < length d.processes → a < (process_of d p).size → LiesAt d p a p (before_private (process_of d p) + a)
private_lies d p a is below low =
    let whole : (process_of d p).size % 32 ≡ 0 = process_whole d p is below in
    record {
      place = process_has_blocks d p ((before_private (process_of d p) + a) / 32) no_process below (omega arith);
      aligned = omega arith;
      address = rw (lt-ltb p (length d.processes) below) (omega arith);
    }

shared_lies : (d : MachineDesc) (p a s o : ℕ) → IsDescription d → s < length d.segments → o < (segment_of d s).size → a ≡ 0x40000000 + 0x10000 * s + o → LiesAt d p a (length d.processes + s) o
shared_lies d p a s o is below low is_at =
    let whole : (segment_of d s).size % 32 ≡ 0 = segment_whole d s is below in
    let number : length d.processes + s - length d.processes ≡ s = omega arith in
    record {
      place = segment_has_blocks d s (o / 32) no_segment below (omega arith);
      aligned = omega arith;
      address = rw (le-ltb (length d.processes + s) (length d.processes) (omega arith), number) (omega arith);
    }

shared_place : (d : MachineDesc) (p held a s o : ℕ) (at : Extent × ℕ) → IsDescription d → a ≡ 0x40000000 + 0x10000 * s + o → mapped_shared d held s o ≡ Some at → LiesAtPlace d p a at
shared_place d p held a s o at is is_at e =
    let t = nat_lt s (length d.segments) && has_bit held s in
    go (t && nat_lt o (segment_of d s).size) refl
  where
    go : (b : Bool) → ((nat_lt s (length d.segments) && has_bit held s) && nat_lt o (segment_of d s).size) ≡ b → LiesAtPlace d p a at
    go true test =
        let t = nat_lt s (length d.segments) && has_bit held s in
        let both = and_parts t (nat_lt o (segment_of d s).size) test in
        let there = ltb-true s (length d.segments) (and_parts (nat_lt s (length d.segments)) (has_bit held s) both.0).0 in
        let low = ltb-true o (segment_of d s).size both.1 in
        let found : ◌≡◌ {A = Option (Extent × ℕ)} (Some (record { 0 = length d.processes + s }, o)) (Some at) = rw test at e in
        some_same (LiesAtPlace d p a) (record { 0 = length d.processes + s }, o) at found (shared_lies d p a s o is there low is_at)
    go false test = absurd (let none : ◌≡◌ {A = Option (Extent × ℕ)} None (Some at) = rw test at e in cc)

pub mapped_lies : (d : MachineDesc) (p held a : ℕ) (at : Extent × ℕ) → IsDescription d → p < length d.processes → mapped d p held a ≡ Some at → LiesAtPlace d p a at
unfolding mapped
mapped_lies d p held a at is below e =
    let size = (process_of d p).size in
    elim (cases_lt a size) [
      | inl low ↦
          let found : ◌≡◌ {A = Option (Extent × ℕ)} (Some (record { 0 = p }, before_private (process_of d p) + a)) (Some at) = rw (lt-ltb a size low) at e in
          some_same (LiesAtPlace d p a) (record { 0 = p }, before_private (process_of d p) + a) at found (private_lies d p a is below low)
      | inr past ↦ elim (cases_lt a 0x40000000) [
        | inl gap ↦ absurd (let none : ◌≡◌ {A = Option (Extent × ℕ)} None (Some at) = rw (le-ltb a size past, lt-ltb a 0x40000000 gap) at e in cc)
        | inr high ↦
            let found : mapped_shared d held ((a - 0x40000000) / 0x10000) ((a - 0x40000000) % 0x10000) ≡ Some at = rw (le-ltb a size past, le-ltb a 0x40000000 high) at e in
            shared_place d p held a ((a - 0x40000000) / 0x10000) ((a - 0x40000000) % 0x10000) at is (omega arith) found
      ]
    ]

-- two addresses in one extent are as far apart as their bytes
pub same_distance : (d : MachineDesc) (p a b e x y : ℕ) → LiesAt d p a e x → LiesAt d p b e y → a + y ≡ b + x
same_distance d p a b e x y first second = omega (arith, first.address, second.address)
