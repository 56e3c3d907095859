-- Two states that agree on a process, and what it does in both.
use Rattle.std.proofs.Common.{◌≡◌, ℕ, suc, ◌+◌, ◌-◌, Bool, true, false, List, [], ◌∷◌, length, drop, get_or, Some, Result, Ok, Err, refl, sym, ◌∙◌, ap, inl, inr, true≢false, length-drop, arith}
use Rattle.std.specs.Prelude.{if◌then◌else◌, nat_lt, slice_get}
use Rattle.std.specs.List.{list_any}
use Rattle.std.proofs.lemmas.Bool.{cases_Bool}
use Rattle.std.proofs.lemmas.List.{get_or-drop}
use Rattle.std.proofs.Math.Path.{fun_ext}
use Rattle.seq_isa.specs.Meaning.{registers_after, following}
use Rattle.seq_flat.specs.declared.state.ProcessState.{ProcessState}
use Rattle.seq_flat.specs.declared.state.SegmentState.{SegmentState}
use Rattle.seq_flat.specs.declared.state.FlatState.{FlatState}
use Rattle.seq_flat.specs.declared.state.Rights.{Rights}
use Rattle.seq_flat.specs.declared.state.Waits.{Waits}
use Rattle.seq_flat.specs.State.{no_segment, process_at, segment_at, with_process}
use Rattle.seq_flat.specs.Memory.{is_owner, segment_of, offset_of, shared_bytes, seen}
use Rattle.seq_flat.specs.Calls.{answered}
use Rattle.seq_runs.specs.Areas.{holds, HoldsWithin, Agree}
use Rattle.seq_runs.proofs.Touches.{Touch, nothing, touched, MayTouch, outside}

-- two states, a process and its area
pub record Two : Type 0 where
  pub rights : List Rights
  pub area : ℕ → Bool
  pub p : ℕ
  pub f : FlatState
  pub g : FlatState

-- the states agree on the process, which holds only segments of the area in both
pub record Facing (t : Two) : Type 0 where
  pub agree : Agree t.rights t.area t.p t.f t.g
  pub near : HoldsWithin t.area t.p t.f
  pub far : HoldsWithin t.area t.p t.g

-- one touch leads from the first state to f', and from the second to the result
pub record SameTouch (t : Two) (f' : FlatState) (result : Result FlatState Waits) : Type 0 where
  pub now : ProcessState
  pub touch : Touch
  pub here : f' ≡ touched t.f t.p now touch
  pub there : result ≡ Ok (touched t.g t.p now touch)
  pub may : MayTouch t.rights t.area t.p touch

-- where the first result is a state in which the process holds only segments of the area, the second comes by the same touch
unfoldable pub Same : Two → Result FlatState Waits → Result FlatState Waits → Type 0
Same t (Ok f') result = HoldsWithin t.area t.p f' → SameTouch t f' result
Same t (Err w) result = Unit {0}

-- the process holds the same segments in both
pub holds_same : (t : Two) (s : ℕ) → Facing t → holds t.f t.p s ≡ holds t.g t.p s
holds_same t s h = elim (cases_Bool (t.area s)) [
  | inl inside ↦ ap (λ (x : SegmentState). is_owner t.p x.owner) (h.agree.segment s inside)
  | inr out ↦ outside t.area t.p t.f s h.near out ∙ sym (outside t.area t.p t.g s h.far out)
]

-- a test that tells two lists apart nowhere
any_same : {A : Type 0} (test : A → Bool) (d : A) (xs ys : List A) → length xs ≡ length ys → ((i : ℕ) → test (get_or xs i d) ≡ test (get_or ys i d)) → list_any test xs ≡ list_any test ys
any_same test d [] [] long same = refl
any_same test d [] (y ∷ ys) long same = absurd (let c : ⊥ = omega (arith, long) in c)
any_same test d (x ∷ xs) [] long same = absurd (let c : ⊥ = omega (arith, long) in c)
any_same test d (x ∷ xs) (y ∷ ys) long same =
    let first : test x ≡ test y = same 0 in
    let rest : list_any test xs ≡ list_any test ys = any_same test d xs ys (omega (arith, long)) (λ i. same (suc i)) in
    rw (first, rest) refl

pub any_held_same : (t : Two) (n : ℕ) → Facing t → list_any (λ s. is_owner t.p s.owner) (drop n t.f.segments) ≡ list_any (λ s. is_owner t.p s.owner) (drop n t.g.segments)
any_held_same t n h =
    any_same (λ (s : SegmentState). is_owner t.p s.owner) no_segment (drop n t.f.segments) (drop n t.g.segments)
    (length-drop n t.f.segments ∙ ap (λ k. k - n) h.agree.counts.segments ∙ sym (length-drop n t.g.segments))
    (λ i. ap (λ (x : SegmentState). is_owner t.p x.owner) (get_or-drop n t.f.segments i no_segment) ∙ holds_same t (n + i) h ∙ ap (λ (x : SegmentState). is_owner t.p x.owner) (sym (get_or-drop n t.g.segments i no_segment)))

-- what the process sees of a segment
shared_same : (t : Two) (s : ℕ) → Facing t → shared_bytes t.p (segment_at t.f s) ≡ shared_bytes t.p (segment_at t.g s)
shared_same t s h = elim (cases_Bool (t.area s)) [
  | inl inside ↦ ap (shared_bytes t.p) (h.agree.segment s inside)
  | inr out ↦ rw (outside t.area t.p t.f s h.near out, outside t.area t.p t.g s h.far out) refl
]

-- the process sees the same memory
pub seen_same : (t : Two) → Facing t → seen (process_at t.f t.p).bytes t.f.segments t.p ≡ seen (process_at t.g t.p).bytes t.g.segments t.p
unfolding seen
seen_same t h = fun_ext (λ a.
    ap (λ (q : ProcessState). if nat_lt a 1073741824 then slice_get q.bytes a else slice_get (shared_bytes t.p (segment_at t.f (segment_of a))) (offset_of a)) h.agree.process
    ∙ ap (λ (bytes : List ℕ). if nat_lt a 1073741824 then slice_get (process_at t.g t.p).bytes a else slice_get bytes (offset_of a)) (shared_same t (segment_of a) h))

-- a choice by the same test
pub either : (t : Two) (b c : Bool) (x y x' y' : Result FlatState Waits) → b ≡ c → (b ≡ true → Same t x x') → (b ≡ false → Same t y y') → Same t (if b then x else y) (if c then x' else y')
either t true true x y x' y' same one two = one refl
either t true false x y x' y' same one two = absurd (true≢false same)
either t false true x y x' y' same one two = absurd (true≢false (sym same))
either t false false x y x' y' same one two = two refl

-- the process gets the same answer
pub answer_same : (t : Two) (answer : ℕ) → Facing t → Same t (Ok (answered t.f t.p answer)) (Ok (answered t.g t.p answer))
unfolding Same answered
answer_same t answer h within = record {
  now = let q : ProcessState = process_at t.f t.p in record q { regs = registers_after q.regs (Some (10, answer)) (following q.regs) };
  touch = nothing;
  here = refl;
  there = ap (λ (q : ProcessState). Ok (with_process t.g t.p (record q { regs = registers_after q.regs (Some (10, answer)) (following q.regs) }))) (sym h.agree.process);
  may = tt;
}
