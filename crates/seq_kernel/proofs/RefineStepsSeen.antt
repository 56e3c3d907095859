-- The memory that a running process sees is that of the flat process which it shows.
use Rattle.std.proofs.Common.{◌≡◌, ℕ, ◌+◌, ◌<◌, ◌≤◌, Bool, true, false, List, [], length, get_or, slice_get, Option, Some, None, option_map, arith, refl, sym, ◌∙◌, ap, inl, inr, zero-add, if◌then◌else◌}
use Rattle.std.proofs.lemmas.Bool.{cases_lt, cases_Bool, lt-ltb, le-ltb}
use Rattle.std.proofs.lemmas.List.{get_or_past}
use Rattle.std.proofs.lemmas.Option.{slice_get-get_or, slice_get_past}
use mathlib.Core.Path.{fun_ext}
use Rattle.seq_words.specs.Masks.{has_bit}
use Rattle.seq_words.specs.Description.{IsDescription, no_process, process_of, segment_of}
use Rattle.seq_words.specs.declared.description.MachineDesc.{MachineDesc}
use Rattle.seq_flat.specs.declared.state.SegmentState.{SegmentState}
use Rattle.seq_flat.specs.declared.state.FlatState.{FlatState}
use Rattle.seq_flat.specs.State.{process_at, segment_at, no_segment}
use Rattle.seq_flat.specs.Memory.{is_owner, segment_of as segment_number, offset_of, shared_bytes, seen as flat_seen}
use Rattle.seq_layout.specs.declared.extents.Extent.{Extent}
use Rattle.seq_layout.specs.Shapes.{shape_of, segment_extent}
use Rattle.seq_process.specs.declared.running.Running.{Running}
use Rattle.seq_segments.specs.Map.{before_private, mapped_shared, mapped}
use Rattle.seq_kernel.specs.Views.{Blocks, byte_in, seen}
use Rattle.seq_kernel.specs.Bounds.{IsRunning}
use Rattle.seq_flat.specs.Reached.{IsFlat}
use Rattle.seq_kernel.specs.Shown.{ShowsSegment, Shows}

-- a process is smaller than the first segment's address
pub private_small : (d : MachineDesc) (pid : ℕ) → IsDescription d → pid < length d.processes → (process_of d pid).size ≤ 65536
private_small d pid described there = (described.each_process pid no_process there).size.between.high_at

-- the place of each address: a private byte, none, or a byte of a segment
pub mapped_private : (d : MachineDesc) (pid held a : ℕ) → a < (process_of d pid).size → mapped d pid held a ≡ Some (record { 0 = pid }, before_private (process_of d pid) + a)
unfolding mapped
mapped_private d pid held a low = rw (lt-ltb a (process_of d pid).size low) refl

pub mapped_between : (d : MachineDesc) (pid held a : ℕ) → (process_of d pid).size ≤ a → a < 0x40000000 → mapped d pid held a ≡ None
unfolding mapped
mapped_between d pid held a past low = rw (le-ltb a (process_of d pid).size past, lt-ltb a 0x40000000 low) refl

pub mapped_high : (d : MachineDesc) (pid held a : ℕ) → (process_of d pid).size ≤ 65536 → 0x40000000 ≤ a → mapped d pid held a ≡ mapped_shared d held (segment_number a) (offset_of a)
unfolding mapped
mapped_high d pid held a small high = rw (le-ltb a (process_of d pid).size (omega arith), le-ltb a 0x40000000 high) refl

pub mapped_inside : (d : MachineDesc) (held t offset : ℕ) → t < length d.segments → has_bit held t ≡ true → offset < (segment_of d t).size → mapped_shared d held t offset ≡ Some (record { 0 = length d.processes + t }, offset)
mapped_inside d held t offset there held_too inside = rw (lt-ltb t (length d.segments) there, held_too, lt-ltb offset (segment_of d t).size inside) refl

-- not there, not held, or past its end
mapped_nowhere : (d : MachineDesc) (held t offset : ℕ) → length d.segments ≤ t → mapped_shared d held t offset ≡ None
mapped_nowhere d held t offset past = rw (le-ltb t (length d.segments) past) refl

mapped_unheld : (d : MachineDesc) (held t offset : ℕ) → t < length d.segments → has_bit held t ≡ false → mapped_shared d held t offset ≡ None
mapped_unheld d held t offset there free = rw (lt-ltb t (length d.segments) there, free) refl

mapped_past : (d : MachineDesc) (held t offset : ℕ) → t < length d.segments → has_bit held t ≡ true → (segment_of d t).size ≤ offset → mapped_shared d held t offset ≡ None
mapped_past d held t offset there held_too past = rw (lt-ltb t (length d.segments) there, held_too, le-ltb offset (segment_of d t).size past) refl

-- what is read at a place
abbrev read_at : Blocks → Option (Extent × ℕ) → Option ℕ
read_at o place = option_map (λ at. byte_in o at.0.0 at.1) place

pub seen_is : (d : MachineDesc) (pid held : ℕ) (o : Blocks) (a : ℕ) → seen d pid held o a ≡ read_at o (mapped d pid held a)
unfolding seen
seen_is d pid held o a = refl

-- the flat machine's view, below the segments and from them on
pub flat_low : (bytes : List ℕ) (segments : List SegmentState) (p a : ℕ) → a < 0x40000000 → flat_seen bytes segments p a ≡ slice_get bytes a
unfolding flat_seen
flat_low bytes segments p a lt = rw (lt-ltb a 0x40000000 lt) refl

pub flat_high : (bytes : List ℕ) (segments : List SegmentState) (p a : ℕ) → 0x40000000 ≤ a → flat_seen bytes segments p a ≡ slice_get (shared_bytes p (get_or segments (segment_number a) no_segment)) (offset_of a)
unfolding flat_seen
flat_high bytes segments p a le = rw (le-ltb a 0x40000000 le) refl

-- a private byte is the same on both sides
private_same : (d : MachineDesc) (f : FlatState) (o : Blocks) (r : Running) (a : ℕ) → IsRunning d r → IsFlat d f → Shows d f o r → a < (process_of d r.pid.0).size → slice_get (process_at f r.pid.0).bytes a ≡ read_at o (mapped d r.pid.0 r.held a)
private_same d f o r a running flat shows low =
    let size : length (process_at f r.pid.0).bytes ≡ (process_of d r.pid.0).size = flat.sizes r.pid.0 running.within.process in
    let inside : a < length (process_at f r.pid.0).bytes = omega arith in
    slice_get-get_or (process_at f r.pid.0).bytes a 0 inside
    ∙ ap Some (sym (shows.private.each a inside))
    ∙ sym (ap (read_at o) (mapped_private d r.pid.0 r.held a low))

-- above them there is nothing up to the segments
between_same : (d : MachineDesc) (f : FlatState) (o : Blocks) (r : Running) (a : ℕ) → IsRunning d r → IsFlat d f → (process_of d r.pid.0).size ≤ a → a < 0x40000000 → slice_get (process_at f r.pid.0).bytes a ≡ read_at o (mapped d r.pid.0 r.held a)
between_same d f o r a running flat past low =
    let size : length (process_at f r.pid.0).bytes ≡ (process_of d r.pid.0).size = flat.sizes r.pid.0 running.within.process in
    slice_get_past (process_at f r.pid.0).bytes a (omega arith)
    ∙ sym (ap (read_at o) (mapped_between d r.pid.0 r.held a past low))

-- what a process sees of a segment
owned_bytes : (p : ℕ) (s : SegmentState) (owned : Bool) → is_owner p s.owner ≡ owned → shared_bytes p s ≡ (if owned then s.bytes else [])
owned_bytes p s owned e = rw e refl

held_same : (d : MachineDesc) (f : FlatState) (o : Blocks) (r : Running) (t offset : ℕ) → IsFlat d f → ShowsSegment d f o r t → t < length d.segments → has_bit r.held t ≡ true → slice_get (segment_at f t).bytes offset ≡ read_at o (mapped_shared d r.held t offset)
held_same d f o r t offset flat shows there held =
    let size : length (segment_at f t).bytes ≡ (segment_of d t).size = flat.segment_sizes t there in
    elim (cases_lt offset (segment_of d t).size) [
      | inl low ↦
          let inside : offset < length (segment_at f t).bytes = omega arith in
          slice_get-get_or (segment_at f t).bytes offset 0 inside
          ∙ ap Some (sym ((shows.bytes held).each offset inside))
          ∙ ap (λ n. Some (byte_in o (segment_extent (shape_of d) t) n)) (zero-add offset)
          ∙ sym (ap (read_at o) (mapped_inside d r.held t offset there held low))
      | inr past ↦
          slice_get_past (segment_at f t).bytes offset (omega arith)
          ∙ sym (ap (read_at o) (mapped_past d r.held t offset there held past))
    ]

shared_there : (d : MachineDesc) (f : FlatState) (o : Blocks) (r : Running) (t offset : ℕ) → IsFlat d f → ShowsSegment d f o r t → t < length d.segments → slice_get (shared_bytes r.pid.0 (segment_at f t)) offset ≡ read_at o (mapped_shared d r.held t offset)
shared_there d f o r t offset flat shows there = elim (cases_Bool (has_bit r.held t)) [
  | inl held ↦
      ap (λ (xs : List ℕ). slice_get xs offset) (owned_bytes r.pid.0 (segment_at f t) true (sym shows.held ∙ held))
      ∙ held_same d f o r t offset flat shows there held
  | inr free ↦
      ap (λ (xs : List ℕ). slice_get xs offset) (owned_bytes r.pid.0 (segment_at f t) false (sym shows.held ∙ free))
      ∙ sym (ap (read_at o) (mapped_unheld d r.held t offset there free))
]

-- a byte of a segment is the same on both sides
shared_same : (d : MachineDesc) (f : FlatState) (o : Blocks) (r : Running) (t offset : ℕ) → IsFlat d f → Shows d f o r → slice_get (shared_bytes r.pid.0 (segment_at f t)) offset ≡ read_at o (mapped_shared d r.held t offset)
shared_same d f o r t offset flat shows = elim (cases_lt t (length d.segments)) [
  | inl there ↦ shared_there d f o r t offset flat (shows.segment t there) there
  | inr past ↦
      let none : segment_at f t ≡ no_segment = get_or_past f.segments t no_segment (let same = flat.segments in omega arith) in
      ap (λ (s : SegmentState). slice_get (shared_bytes r.pid.0 s) offset) none
      ∙ sym (ap (read_at o) (mapped_nowhere d r.held t offset past))
]

same_at : (d : MachineDesc) (f : FlatState) (o : Blocks) (r : Running) (a : ℕ) → IsDescription d → IsRunning d r → IsFlat d f → Shows d f o r → flat_seen (process_at f r.pid.0).bytes f.segments r.pid.0 a ≡ read_at o (mapped d r.pid.0 r.held a)
same_at d f o r a described running flat shows =
    let small : (process_of d r.pid.0).size ≤ 65536 = private_small d r.pid.0 described running.within.process in
    elim (cases_lt a 0x40000000) [
      | inl low ↦ flat_low (process_at f r.pid.0).bytes f.segments r.pid.0 a low ∙ (elim (cases_lt a (process_of d r.pid.0).size) [
        | inl inside ↦ private_same d f o r a running flat shows inside
        | inr past ↦ between_same d f o r a running flat past low
      ])
      | inr high ↦
          flat_high (process_at f r.pid.0).bytes f.segments r.pid.0 a high
          ∙ shared_same d f o r (segment_number a) (offset_of a) flat shows
          ∙ sym (ap (read_at o) (mapped_high d r.pid.0 r.held a small high))
    ]

-- A running process and the flat process that it shows see the same bytes.
pub same_memory : (d : MachineDesc) (f : FlatState) (o : Blocks) (r : Running) → IsDescription d → IsRunning d r → IsFlat d f → Shows d f o r → flat_seen (process_at f r.pid.0).bytes f.segments r.pid.0 ≡ seen d r.pid.0 r.held o
unfolding seen
same_memory d f o r described running flat shows = fun_ext (λ a. same_at d f o r a described running flat shows)
