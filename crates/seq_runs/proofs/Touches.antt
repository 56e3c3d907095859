-- What a step of a process does to the lists beside the process itself: it touches at most one segment or one line, or gives
-- up all that is held.
use Rattle.std.proofs.Common.{◌≡◌, ◌≢◌, ◌⊎◌, ℕ, ◌<◌, ◌≤◌, Bool, true, false, List, length, map, get_or, set, None, refl, sym, ◌∙◌, ap, subst, inl, inr, length-set, get_or-set_same, get_or-set_other, true≢false}
use Rattle.std.specs.Prelude.{if◌then◌else◌, slice_set}
use Rattle.std.proofs.lemmas.Bool.{cases_Bool, cases_eq, cases_lt}
use Rattle.std.proofs.lemmas.List.{length-map, get_or_past, set_past}
use Rattle.std.proofs.Math.ListN as list
use Rattle.seq_flat.specs.declared.state.ProcessState.{ProcessState}
use Rattle.seq_flat.specs.declared.state.SegmentState.{SegmentState}
use Rattle.seq_flat.specs.declared.state.LineState.{LineState}
use Rattle.seq_flat.specs.declared.state.FlatState.{FlatState}
use Rattle.seq_flat.specs.declared.state.Rights.{Rights}
use Rattle.seq_flat.specs.State.{no_process, no_segment, no_line, segment_at, line_at}
use Rattle.seq_flat.specs.Memory.{is_owner}
use Rattle.seq_flat.specs.Calls.{given_up}
use Rattle.seq_runs.specs.Areas.{owns, holds, HoldsWithin, SameCounts, Agree, OthersStay}

pub data Touch : Type 0 where
  nothing : Touch
  segment : (number : ℕ) → (now : SegmentState) → Touch
  line : (number : ℕ) → (now : LineState) → Touch
  all_given_up : Touch

abbrev pub segments_touched : ℕ → List SegmentState → Touch → List SegmentState
segments_touched p segments nothing = segments
segments_touched p segments (segment s now) = slice_set segments s now
segments_touched p segments (line l now) = segments
segments_touched p segments all_given_up = map (given_up p) segments

abbrev pub lines_touched : List LineState → Touch → List LineState
lines_touched lines nothing = lines
lines_touched lines (segment s now) = lines
lines_touched lines (line l now) = slice_set lines l now
lines_touched lines all_given_up = lines

-- the state in which process p is this one, after such a touch
abbrev pub touched : FlatState → ℕ → ProcessState → Touch → FlatState
touched f p now t = record { processes = slice_set f.processes p now; segments = segments_touched p f.segments t; lines = lines_touched f.lines t }

-- the segment is of the area, and nobody else holds it; the line is one that the process owns
abbrev pub MayTouch : List Rights → (ℕ → Bool) → ℕ → Touch → Type 0
MayTouch rights area p nothing = Unit {0}
MayTouch rights area p (segment s now) = (area s ≡ true) × ((q : ℕ) → q ≢ p → is_owner q now.owner ≡ false)
MayTouch rights area p (line l now) = owns rights p l ≡ true
MayTouch rights area p all_given_up = Unit {0}

-- an element of a list in which one was set
pub at_set : {A : Type 0} (P : A → Type 0) (xs : List A) (i j : ℕ) (x d : A) → (j ≡ i → i < length xs → P x) → ((j ≢ i) ⊎ (length xs ≤ i) → P (get_or xs j d)) → P (get_or (set xs i x) j d)
at_set P xs i j x d same other = elim (cases_eq j i) [
  | inl here ↦ elim (cases_lt i (length xs)) [
    | inl there ↦ subst P (sym (ap (λ k. get_or (set xs i x) k d) here ∙ get_or-set_same xs i x d there)) (same here there)
    | inr past ↦ subst P (sym (ap (λ ys. get_or ys j d) (set_past xs i x past))) (other (inr past))
  ]
  | inr elsewhere ↦ subst P (sym (get_or-set_other xs i j x d elsewhere)) (other (inl elsewhere))
]

-- the same set at the same place of two lists
pub set_alike : {A : Type 0} (xs ys : List A) (i j : ℕ) (x d : A) → length xs ≡ length ys → (j ≢ i → get_or xs j d ≡ get_or ys j d) → get_or (set xs i x) j d ≡ get_or (set ys i x) j d
set_alike xs ys i j x d long same = elim (cases_eq j i) [
  | inl here ↦ elim (cases_lt i (length xs)) [
    | inl there ↦
        let there' : i < length ys = subst (λ n. i < n) long there in
        ap (λ k. get_or (set xs i x) k d) here ∙ get_or-set_same xs i x d there ∙ sym (ap (λ k. get_or (set ys i x) k d) here ∙ get_or-set_same ys i x d there')
    | inr past ↦
        let past' : length ys ≤ i = subst (λ n. n ≤ i) long past in
        let gone : length (set xs i x) ≤ j = rw (length-set xs i x) (subst (λ k. length xs ≤ k) (sym here) past) in
        let gone' : length (set ys i x) ≤ j = rw (length-set ys i x) (subst (λ k. length ys ≤ k) (sym here) past') in
        get_or_past (set xs i x) j d gone ∙ sym (get_or_past (set ys i x) j d gone')
  ]
  | inr elsewhere ↦ get_or-set_other xs i j x d elsewhere ∙ same elsewhere ∙ sym (get_or-set_other ys i j x d elsewhere)
]

-- a segment after all was given up
pub given_up_at : (p : ℕ) (segments : List SegmentState) (s : ℕ) → get_or (map (given_up p) segments) s no_segment ≡ given_up p (get_or segments s no_segment)
given_up_at p segments s = list.get_or-map (given_up p) segments s no_segment

-- one that isn't held stays
pub not_given_up : (p : ℕ) (s : SegmentState) → is_owner p s.owner ≡ false → given_up p s ≡ s
not_given_up p s other = rw other refl

-- nobody comes to hold what is given up
pub given_up_holder : (p q : ℕ) (s : SegmentState) → is_owner q (given_up p s).owner ≡ true → is_owner q s.owner ≡ true
given_up_holder p q s held = go (is_owner p s.owner) refl held
  where
    go : (b : Bool) → is_owner p s.owner ≡ b → is_owner q (let t : SegmentState = if b then record s { owner = None } else s in t).owner ≡ true → is_owner q s.owner ≡ true
    go true e h = absurd (true≢false (sym h))
    go false e h = h

-- what is outside of the area isn't held
pub outside : (area : ℕ → Bool) (p : ℕ) (f : FlatState) (s : ℕ) → HoldsWithin area p f → area s ≡ false → holds f p s ≡ false
outside area p f s within out = elim (cases_Bool (holds f p s)) [
  | inl held ↦ absurd (true≢false (sym (within.segment s held) ∙ out))
  | inr free ↦ free
]

counts_touched : (f : FlatState) (p : ℕ) (now : ProcessState) (t : Touch) → SameCounts f (touched f p now t)
counts_touched f p now nothing = record { processes = sym (length-set f.processes p now); segments = refl; lines = refl }
counts_touched f p now (segment s g) = record { processes = sym (length-set f.processes p now); segments = sym (length-set f.segments s g); lines = refl }
counts_touched f p now (line l n) = record { processes = sym (length-set f.processes p now); segments = refl; lines = sym (length-set f.lines l n) }
counts_touched f p now all_given_up = record { processes = sym (length-set f.processes p now); segments = sym (length-map f.segments (given_up p)); lines = refl }

segment_stays : (rights : List Rights) (area : ℕ → Bool) (f : FlatState) (p : ℕ) (now : ProcessState) (t : Touch) (s : ℕ) → HoldsWithin area p f → MayTouch rights area p t → area s ≡ false → segment_at (touched f p now t) s ≡ segment_at f s
segment_stays rights area f p now nothing s within may out = refl
segment_stays rights area f p now (segment k g) s within may out = get_or-set_other f.segments k s g no_segment (λ same. true≢false (sym may.0 ∙ ap area (sym same) ∙ out))
segment_stays rights area f p now (line l n) s within may out = refl
segment_stays rights area f p now all_given_up s within may out = given_up_at p f.segments s ∙ not_given_up p (segment_at f s) (outside area p f s within out)

line_stays : (rights : List Rights) (area : ℕ → Bool) (f : FlatState) (p : ℕ) (now : ProcessState) (t : Touch) (l : ℕ) → MayTouch rights area p t → owns rights p l ≡ false → line_at (touched f p now t) l ≡ line_at f l
line_stays rights area f p now nothing l may other = refl
line_stays rights area f p now (segment s g) l may other = refl
line_stays rights area f p now (line k n) l may other = get_or-set_other f.lines k l n no_line (λ same. true≢false (sym may ∙ ap (owns rights p) (sym same) ∙ other))
line_stays rights area f p now all_given_up l may other = refl

holder_stays : (rights : List Rights) (area : ℕ → Bool) (f : FlatState) (p : ℕ) (now : ProcessState) (t : Touch) (q s : ℕ) → MayTouch rights area p t → q ≢ p → holds (touched f p now t) q s ≡ true → holds f q s ≡ true
holder_stays rights area f p now nothing q s may other held = held
holder_stays rights area f p now (segment k g) q s may other held =
    at_set (λ (x : SegmentState). is_owner q x.owner ≡ true → holds f q s ≡ true) f.segments k s g no_segment
    (λ _ _ h. absurd (true≢false (sym h ∙ may.1 q other))) (λ _ h. h) held
holder_stays rights area f p now (line l n) q s may other held = held
holder_stays rights area f p now all_given_up q s may other held = given_up_holder p q (segment_at f s) (subst (λ (x : SegmentState). is_owner q x.owner ≡ true) (given_up_at p f.segments s) held)

-- a touch that a process may make changes nothing of others
pub touch_stays : (rights : List Rights) (area : ℕ → Bool) (f : FlatState) (p : ℕ) (now : ProcessState) (t : Touch) → HoldsWithin area p f → MayTouch rights area p t → OthersStay rights area p f (touched f p now t)
touch_stays rights area f p now t within may = record {
  process = λ q other. get_or-set_other f.processes p q now no_process other;
  line = λ l other. line_stays rights area f p now t l may other;
  segment = λ s out. segment_stays rights area f p now t s within may out;
  holder = λ q s other held. holder_stays rights area f p now t q s may other held;
  counts = counts_touched f p now t;
}

segment_alike : (area : ℕ → Bool) (f g : FlatState) (p : ℕ) (now : ProcessState) (t : Touch) (s : ℕ) → length f.segments ≡ length g.segments → segment_at f s ≡ segment_at g s → segment_at (touched f p now t) s ≡ segment_at (touched g p now t) s
segment_alike area f g p now nothing s long same = same
segment_alike area f g p now (segment k x) s long same = set_alike f.segments g.segments k s x no_segment long (λ _. same)
segment_alike area f g p now (line l n) s long same = same
segment_alike area f g p now all_given_up s long same = given_up_at p f.segments s ∙ ap (given_up p) same ∙ sym (given_up_at p g.segments s)

line_alike : (f g : FlatState) (p : ℕ) (now : ProcessState) (t : Touch) (l : ℕ) → length f.lines ≡ length g.lines → line_at f l ≡ line_at g l → line_at (touched f p now t) l ≡ line_at (touched g p now t) l
line_alike f g p now nothing l long same = same
line_alike f g p now (segment s x) l long same = same
line_alike f g p now (line k n) l long same = set_alike f.lines g.lines k l n no_line long (λ _. same)
line_alike f g p now all_given_up l long same = same

counts_alike : (f g f' g' : FlatState) → SameCounts f g → SameCounts f f' → SameCounts g g' → SameCounts f' g'
counts_alike f g f' g' a b c = record {
  processes = sym b.processes ∙ a.processes ∙ c.processes;
  segments = sym b.segments ∙ a.segments ∙ c.segments;
  lines = sym b.lines ∙ a.lines ∙ c.lines;
}

-- after the same touch two states that agree agree again
pub touch_alike : (rights : List Rights) (area : ℕ → Bool) (f g : FlatState) (p : ℕ) (now : ProcessState) (t : Touch) → Agree rights area p f g → Agree rights area p (touched f p now t) (touched g p now t)
touch_alike rights area f g p now t agree = record {
  process = set_alike f.processes g.processes p p now no_process agree.counts.processes (λ _. agree.process);
  line = λ l mine. line_alike f g p now t l agree.counts.lines (agree.line l mine);
  segment = λ s inside. segment_alike area f g p now t s agree.counts.segments (agree.segment s inside);
  counts = counts_alike f g _ _ agree.counts (counts_touched f p now t) (counts_touched g p now t);
}
