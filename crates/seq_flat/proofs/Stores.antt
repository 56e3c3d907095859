-- A store in the lists of the flat machine is the store in the memory that the process sees.
use Rattle.std.proofs.Common.{is_none, ◌≡◌, ◌≢◌, ◌⊎◌, ℕ, ◌+◌, ◌%◌, ◌<◌, ◌≤◌, Bool, true, false, List, [], length, get_or, set, slice_get, Option, Some, None, arith, refl, sym, ◌∙◌, ap, subst, inl, inr, get_or-set_same, get_or-set_other}
use Rattle.std.proofs.lemmas.List.{get_or_past}
use Rattle.std.proofs.lemmas.Bool.{cases_lt, cases_eq, lt-ltb, le-ltb}
use Rattle.std.proofs.lemmas.Bool.Decides.{nat_tests}
use mathlib.Core.Path.{fun_ext}
use Rattle.seq_isa.specs.Meaning.{Bytes, number_at, stored}
use Rattle.seq_rv32.specs.Widths.{IsWidth}
use Rattle.seq_rv32.specs.ByteMemory.{bytes_stored}
use Rattle.seq_rv32.specs.declared.port.Admit.{Admit}
use Rattle.seq_rv32.specs.declared.port.Admit.TheVariants.{Fits, Outside}
use Rattle.seq_flat.specs.declared.state.SegmentState.{SegmentState}
use Rattle.seq_flat.specs.State.{no_segment}
use Rattle.seq_flat.specs.Memory.{is_owner, segment_of, offset_of, shared_bytes, seen, admitted, bytes_after, segments_after}
use Rattle.seq_flat.proofs.Seen.{number_seen, seen_private, seen_shared}
use Rattle.seq_rv32.proofs.Numbers.{number_none, bytes_stored_is}

-- where a store may be made, there is a number
there : (o : Option ℕ) → admitted o ≡ Fits → (n : ℕ) × (o ≡ Some n)
there (Some n) e = (n, refl)
there None e = absurd (let c : ◌≡◌ {A = Admit} Outside Fits = e in cc)

-- a number that is there lies within the list
number_inside : (xs : List ℕ) (at width n : ℕ) → number_at (slice_get xs) at width ≡ Some n → 0 < width → at + width ≤ length xs
number_inside xs at width n e p = elim (cases_lt (length xs) (at + width)) [
  | inl past ↦ absurd (let none = number_none xs at width past p in let some : is_none (number_at (slice_get xs) at width) ≡ false = rw e refl in cc)
  | inr inside ↦ inside
]

positive : (width : ℕ) → IsWidth width → 0 < width
positive width (inl e) = omega arith
positive width (inr (inl e)) = omega arith
positive width (inr (inr e)) = omega arith

pub fits_private : (bytes : List ℕ) (segments : List SegmentState) (p at width : ℕ) → IsWidth width → at % width ≡ 0 → admitted (number_at (seen bytes segments p) at width) ≡ Fits → at < 0x40000000 → at + width ≤ length bytes
fits_private bytes segments p at width wide aligned fits low =
    let (n, is) = there (number_at (seen bytes segments p) at width) fits in
    number_inside bytes at width n (number_seen bytes segments p at width bytes at wide aligned (λ k lt. seen_private bytes segments p at k low lt) ∙ is) (positive width wide)

-- the segment of an admitted store is there, is held, and has its bytes
pub record IsShared (segments : List SegmentState) (p at width : ℕ) : Type 0 where
  pub there : segment_of at < length segments
  pub held : is_owner p (get_or segments (segment_of at) no_segment).owner ≡ true
  pub inside : offset_of at + width ≤ length (get_or segments (segment_of at) no_segment).bytes

-- what the owner and others see of a segment
shared_held : (p : ℕ) (s : SegmentState) → is_owner p s.owner ≡ true → shared_bytes p s ≡ s.bytes
shared_held p s held = rw held refl

shared_other : (p : ℕ) (s : SegmentState) → is_owner p s.owner ≡ false → shared_bytes p s ≡ []
shared_other p s other = rw other refl

held_inside : (p n width : ℕ) (s : SegmentState) → 0 < width → n + width ≤ length (shared_bytes p s) → (is_owner p s.owner ≡ true) × (n + width ≤ length s.bytes)
held_inside p n width s wide inside = go (is_owner p s.owner) refl
  where
    go : (b : Bool) → is_owner p s.owner ≡ b → (is_owner p s.owner ≡ true) × (n + width ≤ length s.bytes)
    go true e = (e, subst (λ (xs : List ℕ). n + width ≤ length xs) (shared_held p s e) inside)
    go false e = let none = subst (λ (xs : List ℕ). n + width ≤ length xs) (shared_other p s e) inside in absurd (let c : ⊥ = omega arith in c)

pub fits_shared : (bytes : List ℕ) (segments : List SegmentState) (p at width : ℕ) → IsWidth width → at % width ≡ 0 → admitted (number_at (seen bytes segments p) at width) ≡ Fits → 0x40000000 ≤ at → IsShared segments p at width
fits_shared bytes segments p at width wide aligned fits high =
    let s = get_or segments (segment_of at) no_segment in
    let (n, is) = there (number_at (seen bytes segments p) at width) fits in
    let inside : offset_of at + width ≤ length (shared_bytes p s) = number_inside (shared_bytes p s) (offset_of at) width n (number_seen bytes segments p at width (shared_bytes p s) (offset_of at) wide aligned (λ k lt. seen_shared bytes segments p at k high lt) ∙ is) (positive width wide) in
    let held = held_inside p (offset_of at) width s (positive width wide) inside in
    record {
      there = elim (cases_lt (segment_of at) (length segments)) [
        | inl lt ↦ lt
        | inr past ↦ absurd (let none : offset_of at + width ≤ length (let t : SegmentState = no_segment in t).bytes = subst (λ (t : SegmentState). offset_of at + width ≤ length t.bytes) (get_or_past segments (segment_of at) no_segment past) held.1 in let p = positive width wide in omega arith)
      ];
      held = held.0;
      inside = held.1;
    }

-- a byte elsewhere stays as it is
stored_out : (f : Bytes) (at width v a : ℕ) → (a < at) ⊎ (at + width ≤ a) → stored f at width v a ≡ f a
unfolding stored
stored_out f at width v a (inl low) = grind (arith, nat_tests)
stored_out f at width v a (inr high) = grind (arith, nat_tests)

-- the same store in two memories, one moved against the other
stored_moved : (f g : Bytes) (at b width v a c : ℕ) → a + b ≡ c + at → f a ≡ g c → stored f at width v a ≡ stored g b width v c
unfolding stored
stored_moved f g at b width v a c moved same = grind (arith, nat_tests)

-- what is seen below and from the first segment's address on
seen_low : (bytes : List ℕ) (segments : List SegmentState) (p a : ℕ) → a < 0x40000000 → seen bytes segments p a ≡ slice_get bytes a
unfolding seen
seen_low bytes segments p a lt = rw (lt-ltb a 0x40000000 lt) refl

seen_high : (bytes : List ℕ) (segments : List SegmentState) (p a : ℕ) → 0x40000000 ≤ a → seen bytes segments p a ≡ slice_get (shared_bytes p (get_or segments (segment_of a) no_segment)) (offset_of a)
unfolding seen
seen_high bytes segments p a le = rw (le-ltb a 0x40000000 le) refl

-- a private store ends below the segments
low_whole : (at width : ℕ) → IsWidth width → at % width ≡ 0 → at < 0x40000000 → at + width ≤ 0x40000000
low_whole at width (inl e) aligned low = omega arith
low_whole at width (inr (inl e)) aligned low = let even : at % 2 ≡ 0 = subst (λ w. at % w ≡ 0) e aligned in omega arith
low_whole at width (inr (inr e)) aligned low = let four : at % 4 ≡ 0 = subst (λ w. at % w ≡ 0) e aligned in omega arith

-- a store among the segments ends in its segment
high_whole : (at width : ℕ) → IsWidth width → at % width ≡ 0 → 0x40000000 ≤ at → offset_of at + width ≤ 65536
high_whole at width (inl e) aligned high = omega arith
high_whole at width (inr (inl e)) aligned high = let even : at % 2 ≡ 0 = subst (λ w. at % w ≡ 0) e aligned in omega arith
high_whole at width (inr (inr e)) aligned high = let four : at % 4 ≡ 0 = subst (λ w. at % w ≡ 0) e aligned in omega arith

pub stores_private : (bytes : List ℕ) (segments : List SegmentState) (p at width v : ℕ) → IsWidth width → at % width ≡ 0 → at < 0x40000000 → at + width ≤ length bytes → seen (bytes_stored bytes at width v) segments p ≡ stored (seen bytes segments p) at width v
stores_private bytes segments p at width v wide aligned low inside = fun_ext (λ a. elim (cases_lt a 0x40000000) [
  | inl here ↦
      seen_low (bytes_stored bytes at width v) segments p a here
      ∙ ap (λ (f : Bytes). f a) (bytes_stored_is bytes at width v inside)
      ∙ stored_moved (slice_get bytes) (seen bytes segments p) at at width v a a refl (sym (seen_low bytes segments p a here))
  | inr past ↦
      let below : at + width ≤ 0x40000000 = low_whole at width wide aligned low in
      seen_high (bytes_stored bytes at width v) segments p a past
      ∙ sym (seen_high bytes segments p a past)
      ∙ sym (stored_out (seen bytes segments p) at width v a (inr (omega arith)))
])

-- an address of another segment isn't stored to
elsewhere : (at width a : ℕ) → 0x40000000 ≤ at → 0x40000000 ≤ a → offset_of at + width ≤ 65536 → segment_of a ≢ segment_of at → (a < at) ⊎ (at + width ≤ a)
elsewhere at width a high past whole other = elim (cases_lt a at) [
  | inl low ↦ inl low
  | inr from ↦ elim (cases_lt a (at + width)) [
    | inl within ↦ absurd (other (omega arith))
    | inr beyond ↦ inr beyond
  ]
]

pub stores_shared : (bytes : List ℕ) (segments : List SegmentState) (p at width v : ℕ) → IsWidth width → at % width ≡ 0 → 0x40000000 ≤ at → IsShared segments p at width
    → seen bytes (set segments (segment_of at) (let s = get_or segments (segment_of at) no_segment in record s { bytes = bytes_stored s.bytes (offset_of at) width v })) p ≡ stored (seen bytes segments p) at width v
stores_shared bytes segments p at width v wide aligned high shared =
    let s : SegmentState = get_or segments (segment_of at) no_segment in
    let t : SegmentState = record s { bytes = bytes_stored s.bytes (offset_of at) width v } in
    let after : List SegmentState = set segments (segment_of at) t in
    let whole : offset_of at + width ≤ 65536 = high_whole at width wide aligned high in
    fun_ext (λ a. elim (cases_lt a 0x40000000) [
      | inl low ↦ seen_low bytes after p a low ∙ sym (seen_low bytes segments p a low) ∙ sym (stored_out (seen bytes segments p) at width v a (inl (omega arith)))
      | inr past ↦ elim (cases_eq (segment_of a) (segment_of at)) [
        | inl same ↦
            let held_after : shared_bytes p t ≡ t.bytes = shared_held p t shared.held in
            let here : get_or after (segment_of a) no_segment ≡ t = ap (λ k. get_or after k no_segment) same ∙ get_or-set_same segments (segment_of at) t no_segment shared.there in
            let before : seen bytes segments p a ≡ slice_get s.bytes (offset_of a) = seen_high bytes segments p a past ∙ ap (λ k. slice_get (shared_bytes p (get_or segments k no_segment)) (offset_of a)) same ∙ ap (λ (xs : List ℕ). slice_get xs (offset_of a)) (shared_held p s shared.held) in
            let moved : a + offset_of at ≡ offset_of a + at = omega arith in
            seen_high bytes after p a past
            ∙ ap (λ (g : SegmentState). slice_get (shared_bytes p g) (offset_of a)) here
            ∙ ap (λ (xs : List ℕ). slice_get xs (offset_of a)) held_after
            ∙ ap (λ (f : Bytes). f (offset_of a)) (bytes_stored_is s.bytes (offset_of at) width v shared.inside)
            ∙ sym (stored_moved (seen bytes segments p) (slice_get s.bytes) at (offset_of at) width v a (offset_of a) moved before)
        | inr other ↦
            seen_high bytes after p a past
            ∙ ap (λ (g : SegmentState). slice_get (shared_bytes p g) (offset_of a)) (get_or-set_other segments (segment_of at) (segment_of a) t no_segment other)
            ∙ sym (seen_high bytes segments p a past)
            ∙ sym (stored_out (seen bytes segments p) at width v a (elsewhere at width a high past whole other))
      ]
    ])

-- the lists after a store, by where its address lies
pub bytes_after_low : (bytes : List ℕ) (at width v : ℕ) → at < 0x40000000 → bytes_after bytes at width v ≡ bytes_stored bytes at width v
unfolding bytes_after
bytes_after_low bytes at width v low = rw (lt-ltb at 0x40000000 low) refl

pub bytes_after_high : (bytes : List ℕ) (at width v : ℕ) → 0x40000000 ≤ at → bytes_after bytes at width v ≡ bytes
unfolding bytes_after
bytes_after_high bytes at width v high = rw (le-ltb at 0x40000000 high) refl

pub segments_after_low : (segments : List SegmentState) (at width v : ℕ) → at < 0x40000000 → segments_after segments at width v ≡ segments
unfolding segments_after
segments_after_low segments at width v low = rw (lt-ltb at 0x40000000 low) refl

pub segments_after_high : (segments : List SegmentState) (at width v : ℕ) → 0x40000000 ≤ at
    → segments_after segments at width v ≡ set segments (segment_of at) (let s = get_or segments (segment_of at) no_segment in record s { bytes = bytes_stored s.bytes (offset_of at) width v })
unfolding segments_after
segments_after_high segments at width v high = rw (le-ltb at 0x40000000 high) refl
