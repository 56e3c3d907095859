-- What a process sees, by where an address lies.
use Rattle.std.proofs.Common.{◌≡◌, ℕ, zero, suc, ◌+◌, ◌-◌, ◌/◌, ◌%◌, ◌<◌, ◌≤◌, Option, List, get_or, slice_get, arith, refl, sym, ◌∙◌, ap, subst, inl, inr}
use Rattle.std.proofs.lemmas.Bool.{lt-ltb, le-ltb}
use Rattle.seq_isa.specs.Meaning.{number_at}
use Rattle.seq_rv32.specs.Widths.{IsWidth}
use Rattle.seq_flat.specs.declared.state.SegmentState.{SegmentState}
use Rattle.seq_flat.specs.State.{no_segment}
use Rattle.seq_flat.specs.Memory.{segment_of, offset_of, shared_bytes, seen}

-- an address below 0x40000000 is private
pub seen_private : (bytes : List ℕ) (segments : List SegmentState) (p a k : ℕ) → a < 0x40000000 → a % 4 + k < 4 → seen bytes segments p (a + k) ≡ slice_get bytes (a + k)
unfolding seen
seen_private bytes segments p a k low near = rw (lt-ltb (a + k) 0x40000000 (omega arith)) refl

-- the four bytes round an address lie in one segment
pub segment_near : (a k : ℕ) → 0x40000000 ≤ a → a % 4 + k < 4 → segment_of (a + k) ≡ segment_of a
segment_near a k high near = omega arith

pub offset_near : (a k : ℕ) → 0x40000000 ≤ a → a % 4 + k < 4 → offset_of (a + k) ≡ offset_of a + k
offset_near a k high near = omega arith

pub seen_shared : (bytes : List ℕ) (segments : List SegmentState) (p a k : ℕ) → 0x40000000 ≤ a → a % 4 + k < 4 → seen bytes segments p (a + k) ≡ slice_get (shared_bytes p (get_or segments ((a - 0x40000000) / 65536) no_segment)) ((a - 0x40000000) % 65536 + k)
unfolding seen
seen_shared bytes segments p a k high near = rw (le-ltb (a + k) 0x40000000 (omega arith), segment_near a k high near, offset_near a k high near) refl

-- a number depends on its bytes alone
pub number_at_same : (f g : ℕ → Option ℕ) (a b width : ℕ) → ((k : ℕ) → k < width → f (a + k) ≡ g (b + k)) → number_at f a width ≡ number_at g b width
unfolding number_at
number_at_same f g a b zero same = refl
number_at_same f g a b (suc width) same =
    let first : f a ≡ g b = ap f (sym (omega arith)) ∙ same 0 (omega arith) ∙ ap g (omega arith) in
    let rest : number_at f (a + 1) width ≡ number_at g (b + 1) width = number_at_same f g (a + 1) (b + 1) width (λ k lt. ap f (omega arith) ∙ same (k + 1) (omega arith) ∙ ap g (omega arith)) in
    rw (first, rest) refl

-- the bytes of such a number lie within four bytes of an aligned word
pub near : (a width k : ℕ) → IsWidth width → a % width ≡ 0 → k < width → a % 4 + k < 4
near a width k (inl e) aligned lt = omega arith
near a width k (inr (inl e)) aligned lt =
    let even : a % 2 ≡ 0 = subst (λ w. a % w ≡ 0) e aligned in
    omega arith
near a width k (inr (inr e)) aligned lt =
    let whole : a % 4 ≡ 0 = subst (λ w. a % w ≡ 0) e aligned in
    omega arith

-- a number of one, two or four bytes at a multiple of its width, by the place of its first byte
pub number_seen : (bytes : List ℕ) (segments : List SegmentState) (p a width : ℕ) (list : List ℕ) (b : ℕ) → IsWidth width → a % width ≡ 0 → ((k : ℕ) → a % 4 + k < 4 → seen bytes segments p (a + k) ≡ slice_get list (b + k)) → number_at (slice_get list) b width ≡ number_at (seen bytes segments p) a width
number_seen bytes segments p a width list b wide aligned same = sym (number_at_same (seen bytes segments p) (slice_get list) a b width (λ k lt. same k (near a width k wide aligned lt)))

pub byte_seen : (bytes : List ℕ) (segments : List SegmentState) (p a : ℕ) (list : List ℕ) (b : ℕ) → ((k : ℕ) → a % 4 + k < 4 → seen bytes segments p (a + k) ≡ slice_get list (b + k)) → slice_get list b ≡ seen bytes segments p a
byte_seen bytes segments p a list b same = sym (ap (seen bytes segments p) (omega arith) ∙ same 0 (omega arith) ∙ ap (slice_get list) (omega arith))
