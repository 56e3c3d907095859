-- The flat state after an instruction and after a trap, part by part.
use Rattle.std.proofs.Common.{◌≡◌, ℕ, ◌<◌, Bool, true, false, List, length, get_or, set, Option, Some, None, arith, refl, sym, ◌∙◌, ap, subst, inl, inr, length-set, get_or-set_same, get_or-set_other}
use Rattle.std.proofs.lemmas.Bool.{cases_lt, cases_eq}
use Rattle.std.proofs.lemmas.List.{set_past, length-map, get_or-map}
use Rattle.seq_words.specs.declared.description.MachineDesc.{MachineDesc}
use Rattle.seq_words.specs.Description.{process_of}
use Rattle.seq_rv32.specs.ByteMemory.{bytes_stored}
use Rattle.seq_rv32.proofs.Numbers.{bytes_stored_length}
use Rattle.seq_flat.specs.declared.state.End.{End}
use Rattle.seq_flat.specs.declared.state.ProcessState.{ProcessState}
use Rattle.seq_flat.specs.declared.state.SegmentState.{SegmentState}
use Rattle.seq_flat.specs.declared.state.LineState.{LineState}
use Rattle.seq_flat.specs.declared.state.FlatState.{FlatState}
use Rattle.seq_flat.specs.State.{no_process, no_segment, process_at, segment_at, line_at, with_process, with_line}
use Rattle.seq_flat.specs.Memory.{is_owner, segment_of as segment_number, offset_of, bytes_after, segments_after}
use Rattle.seq_flat.specs.Calls.{given_up, ended}
use Rattle.seq_flat.specs.Step.{bytes_next, segments_next, process_moved, moved}
use Rattle.seq_flat.proofs.Stores.{bytes_after_low, bytes_after_high, segments_after_low, segments_after_high}
use Rattle.seq_flat.specs.Reached.{IsFlat}

-- what is true of an element, after another was put in its place or elsewhere
pub kept_at : {X : Type 0} (P : X → Type 0) (xs : List X) (i k : ℕ) (y d : X) → P (get_or xs k d) → (k ≡ i → P y) → P (get_or (set xs i y) k d)
kept_at P xs i k y d old new = elim (cases_eq k i) [
  | inl same ↦ elim (cases_lt i (length xs)) [
    | inl inside ↦ subst P (sym (ap (λ j. get_or (set xs i y) j d) same ∙ get_or-set_same xs i y d inside)) (new same)
    | inr past ↦ subst P (sym (ap (λ ys. get_or ys k d) (set_past xs i y past))) old
  ]
  | inr other ↦ subst P (sym (get_or-set_other xs i k y d other)) old
]

-- a segment with bytes put into it
abbrev pub segment_stored : SegmentState → ℕ → ℕ → ℕ → SegmentState
segment_stored s at width v = record s { bytes = bytes_stored s.bytes at width v }

-- the private bytes keep their number
bytes_after_length : (bytes : List ℕ) (at width v : ℕ) → length (bytes_after bytes at width v) ≡ length bytes
bytes_after_length bytes at width v = elim (cases_lt at 1073741824) [
  | inl low ↦ ap length (bytes_after_low bytes at width v low) ∙ bytes_stored_length bytes at width v
  | inr high ↦ ap length (bytes_after_high bytes at width v high)
]

pub bytes_next_length : (bytes : List ℕ) (store : Option (ℕ × ℕ × ℕ)) → length (bytes_next bytes store) ≡ length bytes
bytes_next_length bytes (Some s) = bytes_after_length bytes s.0 s.1 s.2
bytes_next_length bytes None = refl

-- so do the segments, each with its owner and its size
segments_after_length : (segments : List SegmentState) (at width v : ℕ) → length (segments_after segments at width v) ≡ length segments
segments_after_length segments at width v = elim (cases_lt at 1073741824) [
  | inl low ↦ ap length (segments_after_low segments at width v low)
  | inr high ↦
      ap length (segments_after_high segments at width v high)
      ∙ length-set segments (segment_number at) (segment_stored (get_or segments (segment_number at) no_segment) (offset_of at) width v)
]

pub segments_next_length : (segments : List SegmentState) (store : Option (ℕ × ℕ × ℕ)) → length (segments_next segments store) ≡ length segments
segments_next_length segments (Some s) = segments_after_length segments s.0 s.1 s.2
segments_next_length segments None = refl

-- the segments are alike
record IsAlike (s t : SegmentState) : Type 0 where
  pub owner : t.owner ≡ s.owner
  pub size : length t.bytes ≡ length s.bytes

alike : (s : SegmentState) → IsAlike s s
alike s = record { owner = refl; size = refl }

alike_stored : (segments : List SegmentState) (i k at width v : ℕ) → k ≡ i → IsAlike (get_or segments k no_segment) (segment_stored (get_or segments i no_segment) at width v)
alike_stored segments i k at width v same = record {
  owner = ap (λ j. (get_or segments j no_segment).owner) (sym same);
  size = bytes_stored_length (get_or segments i no_segment).bytes at width v ∙ ap (λ j. length (get_or segments j no_segment).bytes) (sym same);
}

segments_after_alike : (segments : List SegmentState) (at width v k : ℕ) → IsAlike (get_or segments k no_segment) (get_or (segments_after segments at width v) k no_segment)
segments_after_alike segments at width v k = elim (cases_lt at 1073741824) [
  | inl low ↦ subst (λ xs. IsAlike (get_or segments k no_segment) (get_or xs k no_segment)) (sym (segments_after_low segments at width v low)) (alike (get_or segments k no_segment))
  | inr high ↦
      let i = segment_number at in
      let y = segment_stored (get_or segments i no_segment) (offset_of at) width v in
      subst (λ xs. IsAlike (get_or segments k no_segment) (get_or xs k no_segment)) (sym (segments_after_high segments at width v high))
      (kept_at (IsAlike (get_or segments k no_segment)) segments i k y no_segment (alike (get_or segments k no_segment)) (λ same. alike_stored segments i k (offset_of at) width v same))
]

segments_next_alike : (segments : List SegmentState) (store : Option (ℕ × ℕ × ℕ)) (k : ℕ) → IsAlike (get_or segments k no_segment) (get_or (segments_next segments store) k no_segment)
segments_next_alike segments (Some s) k = segments_after_alike segments s.0 s.1 s.2 k
segments_next_alike segments None k = alike (get_or segments k no_segment)

pub owner_kept : (segments : List SegmentState) (store : Option (ℕ × ℕ × ℕ)) (k : ℕ) → (get_or (segments_next segments store) k no_segment).owner ≡ (get_or segments k no_segment).owner
owner_kept segments store k = (segments_next_alike segments store k).owner

-- the parts of the state after an instruction
pub moved_process : (f : FlatState) (p : ℕ) (wrote : Option (ℕ × ℕ)) (store : Option (ℕ × ℕ × ℕ)) (next : ℕ) → p < length f.processes → process_at (moved f p wrote store next) p ≡ process_moved (process_at f p) wrote store next
unfolding moved
moved_process f p wrote store next there = get_or-set_same f.processes p (process_moved (process_at f p) wrote store next) no_process there

pub moved_segment : (f : FlatState) (p : ℕ) (wrote : Option (ℕ × ℕ)) (store : Option (ℕ × ℕ × ℕ)) (next t : ℕ) → segment_at (moved f p wrote store next) t ≡ get_or (segments_next f.segments store) t no_segment
unfolding moved
moved_segment f p wrote store next t = refl

pub moved_line : (f : FlatState) (p : ℕ) (wrote : Option (ℕ × ℕ)) (store : Option (ℕ × ℕ × ℕ)) (next l : ℕ) → line_at (moved f p wrote store next) l ≡ line_at f l
unfolding moved
moved_line f p wrote store next l = refl

-- it is a flat state of the description again
pub moved_flat : (d : MachineDesc) (f : FlatState) (p : ℕ) (wrote : Option (ℕ × ℕ)) (store : Option (ℕ × ℕ × ℕ)) (next : ℕ) → IsFlat d f → IsFlat d (moved f p wrote store next)
unfolding moved
moved_flat d f p wrote store next flat = record {
  processes = length-set f.processes p (process_moved (process_at f p) wrote store next) ∙ flat.processes;
  segments = segments_next_length f.segments store ∙ flat.segments;
  lines = flat.lines;
  sizes = λ q there. kept_at (λ (s : ProcessState). length s.bytes ≡ (process_of d q).size) f.processes p q (process_moved (process_at f p) wrote store next) no_process (flat.sizes q there)
      (λ same. bytes_next_length (process_at f p).bytes store ∙ ap (λ j. length (process_at f j).bytes) (sym same) ∙ flat.sizes q there);
  segment_sizes = λ t there. (segments_next_alike f.segments store t).size ∙ flat.segment_sizes t there;
}

-- the parts of the state after the end of a process
pub ended_process : (f : FlatState) (p : ℕ) (end : End) → p < length f.processes → process_at (ended f p end) p ≡ record (process_at f p) { end = end }
unfolding ended
ended_process f p end there = get_or-set_same f.processes p (record (process_at f p) { end = end }) no_process there

pub ended_segment : (f : FlatState) (p : ℕ) (end : End) (t : ℕ) → t < length f.segments → segment_at (ended f p end) t ≡ given_up p (segment_at f t)
unfolding ended
ended_segment f p end t there = get_or-map (given_up p) f.segments t no_segment no_segment there

pub ended_line : (f : FlatState) (p : ℕ) (end : End) (l : ℕ) → line_at (ended f p end) l ≡ line_at f l
unfolding ended
ended_line f p end l = refl

-- a segment that is given up isn't owned any more, and keeps its bytes
pub given_up_owner : (p : ℕ) (s : SegmentState) → is_owner p (given_up p s).owner ≡ false
given_up_owner p s = go (is_owner p s.owner) refl
  where
    go : (b : Bool) → is_owner p s.owner ≡ b → is_owner p (given_up p s).owner ≡ false
    go true e = rw e refl
    go false e = rw e e

given_up_size : (p : ℕ) (s : SegmentState) → length (given_up p s).bytes ≡ length s.bytes
given_up_size p s = go (is_owner p s.owner) refl
  where
    go : (b : Bool) → is_owner p s.owner ≡ b → length (given_up p s).bytes ≡ length s.bytes
    go true e = rw e refl
    go false e = rw e refl

pub ended_flat : (d : MachineDesc) (f : FlatState) (p : ℕ) (end : End) → IsFlat d f → IsFlat d (ended f p end)
unfolding ended
ended_flat d f p end flat = record {
  processes = length-set f.processes p (record (process_at f p) { end = end }) ∙ flat.processes;
  segments = length-map f.segments (given_up p) ∙ flat.segments;
  lines = flat.lines;
  sizes = λ q there. kept_at (λ (s : ProcessState). length s.bytes ≡ (process_of d q).size) f.processes p q (record (process_at f p) { end = end }) no_process (flat.sizes q there)
      (λ same. ap (λ j. length (process_at f j).bytes) (sym same) ∙ flat.sizes q there);
  segment_sizes = λ t there.
      let inside : t < length f.segments = (let same = flat.segments in omega arith) in
      ap (λ (s : SegmentState). length s.bytes) (get_or-map (given_up p) f.segments t no_segment no_segment inside)
      ∙ given_up_size p (segment_at f t)
      ∙ flat.segment_sizes t there;
}

-- a process that is put in the place of another
pub process_put : (f : FlatState) (p : ℕ) (q : ProcessState) → p < length f.processes → process_at (with_process f p q) p ≡ q
process_put f p q inside = get_or-set_same f.processes p q no_process inside

-- the state stays one of the description's machine with another process, whose bytes are as many
pub flat_process : (d : MachineDesc) (f : FlatState) (p : ℕ) (q : ProcessState) → IsFlat d f → p < length f.processes → length q.bytes ≡ length (process_at f p).bytes → IsFlat d (with_process f p q)
flat_process d f p q is inside as_many = record {
  processes = length-set f.processes p q ∙ is.processes;
  segments = is.segments;
  lines = is.lines;
  sizes = λ k lt. elim (cases_eq k p) [
    | inl same ↦
        subst (λ n. length (process_at (with_process f p q) n).bytes ≡ (process_of d n).size) (sym same)
        (ap (λ (x : ProcessState). length x.bytes) (process_put f p q inside) ∙ as_many ∙ is.sizes p (subst (λ n. n < length d.processes) same lt))
    | inr other ↦ ap (λ (x : ProcessState). length x.bytes) (get_or-set_other f.processes p k q no_process other) ∙ is.sizes k lt
  ];
  segment_sizes = is.segment_sizes;
}

-- with other segments, whose bytes are as many
pub flat_segments : (d : MachineDesc) (f : FlatState) (segments : List SegmentState) → IsFlat d f → length segments ≡ length f.segments → ((t : ℕ) → t < length f.segments → length (get_or segments t no_segment).bytes ≡ length (segment_at f t).bytes) → IsFlat d (record f { segments = segments })
flat_segments d f segments is as_many sizes = record {
  processes = is.processes;
  segments = as_many ∙ is.segments;
  lines = is.lines;
  sizes = is.sizes;
  segment_sizes = λ t lt. sizes t (subst (λ n. t < n) (sym is.segments) lt) ∙ is.segment_sizes t lt;
}

-- with another line
pub flat_line : (d : MachineDesc) (f : FlatState) (l : ℕ) (n : LineState) → IsFlat d f → IsFlat d (with_line f l n)
flat_line d f l n is = record {
  processes = is.processes;
  segments = is.segments;
  lines = length-set f.lines l n ∙ is.lines;
  sizes = is.sizes;
  segment_sizes = is.segment_sizes;
}
