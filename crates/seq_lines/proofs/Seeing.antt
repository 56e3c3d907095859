-- A process of the state that blocks hold sees what a processor reads there, where it holds what it owns.
use Rattle.std.proofs.Common.{◌≡◌, ℕ, ◌+◌, ◌<◌, ◌≤◌, Bool, true, false, List, [], length, slice_get, Option, Some, None, option_map, arith, refl, sym, ◌∙◌, ap, inl, inr, zero-add, if◌then◌else◌}
use Rattle.std.proofs.lemmas.Bool.{cases_lt, cases_Bool, lt-ltb, le-ltb}
use Rattle.std.proofs.lemmas.List.{get_or_past}
use Rattle.std.proofs.lemmas.List.FromFn.{get_or-map-range_with_len, length-map-range_with_len}
use Rattle.std.proofs.lemmas.Option.{slice_get-get_or, slice_get_past}
use mathlib.Core.Path.{fun_ext}
use Rattle.seq_words.specs.Masks.{has_bit}
use Rattle.seq_words.specs.Description.{IsDescription, process_of, segment_of}
use Rattle.seq_words.specs.declared.description.MachineDesc.{MachineDesc}
use Rattle.seq_flat.specs.declared.state.ProcessState.{ProcessState}
use Rattle.seq_flat.specs.declared.state.SegmentState.{SegmentState}
use Rattle.seq_flat.specs.State.{no_process, no_segment, process_at, segment_at}
use Rattle.seq_flat.specs.Memory.{is_owner, segment_of as segment_number, offset_of, shared_bytes, seen as flat_seen}
use Rattle.seq_layout.specs.declared.extents.Extent.{Extent}
use Rattle.seq_segments.specs.Map.{before_private, mapped_shared, mapped}
use Rattle.seq_kernel.specs.Views.{Blocks, byte_in, seen}
use Rattle.seq_kernel.proofs.RefineStepsSeen.{private_small, mapped_private, mapped_between, mapped_high, mapped_inside, flat_low, flat_high}
use Rattle.seq_lines.specs.Committed.{bytes_in, process_in, owner_in, segment_in, state_in}

-- what is read at a place
abbrev read_at : Blocks → Option (Extent × ℕ) → Option ℕ
read_at o place = option_map (λ at. byte_in o at.0.0 at.1) place

-- a byte of some that stand in an extent, and none past them
bytes_length : (o : Blocks) (e from size : ℕ) → length (bytes_in o e from size) ≡ size
unfolding bytes_in
bytes_length o e from size = length-map-range_with_len (λ k. byte_in o e (from + k)) 0 size

bytes_inside : (o : Blocks) (e from size k : ℕ) → k < size → slice_get (bytes_in o e from size) k ≡ Some (byte_in o e (from + k))
unfolding bytes_in
bytes_inside o e from size k lt =
    let same : length (bytes_in o e from size) ≡ size = bytes_length o e from size in
    slice_get-get_or (bytes_in o e from size) k 0 (omega (arith, same, lt))
    ∙ ap Some (get_or-map-range_with_len (λ k. byte_in o e (from + k)) 0 size k k 0 lt (omega arith))

bytes_past : (o : Blocks) (e from size k : ℕ) → size ≤ k → slice_get (bytes_in o e from size) k ≡ None
bytes_past o e from size k past =
    let same : length (bytes_in o e from size) ≡ size = bytes_length o e from size in
    slice_get_past (bytes_in o e from size) k (omega (arith, same, past))

-- no byte of a segment that isn't there, isn't held, or ends before
nowhere : (d : MachineDesc) (owned t offset : ℕ) → length d.segments ≤ t → mapped_shared d owned t offset ≡ None
nowhere d owned t offset past = rw (le-ltb t (length d.segments) past) refl

unheld : (d : MachineDesc) (owned t offset : ℕ) → t < length d.segments → has_bit owned t ≡ false → mapped_shared d owned t offset ≡ None
unheld d owned t offset there free = rw (lt-ltb t (length d.segments) there, free) refl

past_end : (d : MachineDesc) (owned t offset : ℕ) → t < length d.segments → has_bit owned t ≡ true → (segment_of d t).size ≤ offset → mapped_shared d owned t offset ≡ None
past_end d owned t offset there held past = rw (lt-ltb t (length d.segments) there, held, le-ltb offset (segment_of d t).size past) refl

owned_bytes : (p : ℕ) (s : SegmentState) (mine : Bool) → is_owner p s.owner ≡ mine → shared_bytes p s ≡ (if mine then s.bytes else [])
owned_bytes p s mine e = rw e refl

-- a process and a segment of the state
pub process_there : (d : MachineDesc) (o : Blocks) (q : ℕ) → q < length d.processes → process_at (state_in d o) q ≡ process_in d o q
process_there d o q lt = get_or-map-range_with_len (process_in d o) 0 (length d.processes) q q no_process lt (omega arith)

pub segment_there : (d : MachineDesc) (o : Blocks) (t : ℕ) → t < length d.segments → segment_at (state_in d o) t ≡ segment_in d o t
segment_there d o t lt = get_or-map-range_with_len (segment_in d o) 0 (length d.segments) t t no_segment lt (omega arith)

pub segments_length : (d : MachineDesc) (o : Blocks) → length (state_in d o).segments ≡ length d.segments
segments_length d o = length-map-range_with_len (segment_in d o) 0 (length d.segments)

pub no_segment_past : (d : MachineDesc) (o : Blocks) (t : ℕ) → length d.segments ≤ t → segment_at (state_in d o) t ≡ no_segment
no_segment_past d o t past = get_or_past (state_in d o).segments t no_segment (let n = segments_length d o in omega (arith, n, past))

process_bytes : (d : MachineDesc) (o : Blocks) (q : ℕ) → (process_in d o q).bytes ≡ bytes_in o q (before_private (process_of d q)) (process_of d q).size
unfolding process_in
process_bytes d o q = refl

segment_bytes : (d : MachineDesc) (o : Blocks) (t : ℕ) → (segment_in d o t).bytes ≡ bytes_in o (length d.processes + t) 0 (segment_of d t).size
unfolding segment_in
segment_bytes d o t = refl

pub segment_owner : (d : MachineDesc) (o : Blocks) (t : ℕ) → (segment_in d o t).owner ≡ owner_in d o t
unfolding segment_in
segment_owner d o t = refl

module _ (d : MachineDesc) (o : Blocks) (q owned : ℕ) (described : IsDescription d) (there : q < length d.processes) (mine : (t : ℕ) → t < length d.segments → has_bit owned t ≡ is_owner q (owner_in d o t)) where
  private_same : (a : ℕ) → a < 1073741824 → slice_get (process_at (state_in d o) q).bytes a ≡ read_at o (mapped d q owned a)
  private_same a low =
      ap (λ (s : ProcessState). slice_get s.bytes a) (process_there d o q there) ∙ ap (λ (xs : List ℕ). slice_get xs a) (process_bytes d o q)
      ∙ (elim (cases_lt a (process_of d q).size) [
        | inl inside ↦ bytes_inside o q (before_private (process_of d q)) (process_of d q).size a inside ∙ sym (ap (read_at o) (mapped_private d q owned a inside))
        | inr past ↦ bytes_past o q (before_private (process_of d q)) (process_of d q).size a past ∙ sym (ap (read_at o) (mapped_between d q owned a past low))
      ])

  held_same : (t offset : ℕ) → t < length d.segments → has_bit owned t ≡ true → slice_get (segment_in d o t).bytes offset ≡ read_at o (mapped_shared d owned t offset)
  held_same t offset lt held = ap (λ (xs : List ℕ). slice_get xs offset) (segment_bytes d o t)
      ∙ (elim (cases_lt offset (segment_of d t).size) [
        | inl low ↦
            bytes_inside o (length d.processes + t) 0 (segment_of d t).size offset low
            ∙ ap (λ n. Some (byte_in o (length d.processes + t) n)) (zero-add offset)
            ∙ sym (ap (read_at o) (mapped_inside d owned t offset lt held low))
        | inr past ↦ bytes_past o (length d.processes + t) 0 (segment_of d t).size offset past ∙ sym (ap (read_at o) (past_end d owned t offset lt held past))
      ])

  shared_there : (t offset : ℕ) → t < length d.segments → slice_get (shared_bytes q (segment_in d o t)) offset ≡ read_at o (mapped_shared d owned t offset)
  shared_there t offset lt =
      let is : is_owner q (segment_in d o t).owner ≡ has_bit owned t = ap (is_owner q) (segment_owner d o t) ∙ sym (mine t lt) in
      elim (cases_Bool (has_bit owned t)) [
        | inl held ↦ ap (λ (xs : List ℕ). slice_get xs offset) (owned_bytes q (segment_in d o t) true (is ∙ held)) ∙ held_same t offset lt held
        | inr free ↦ ap (λ (xs : List ℕ). slice_get xs offset) (owned_bytes q (segment_in d o t) false (is ∙ free)) ∙ sym (ap (read_at o) (unheld d owned t offset lt free))
      ]

  shared_same : (t offset : ℕ) → slice_get (shared_bytes q (segment_at (state_in d o) t)) offset ≡ read_at o (mapped_shared d owned t offset)
  shared_same t offset = elim (cases_lt t (length d.segments)) [
    | inl lt ↦ ap (λ (s : SegmentState). slice_get (shared_bytes q s) offset) (segment_there d o t lt) ∙ shared_there t offset lt
    | inr past ↦ ap (λ (s : SegmentState). slice_get (shared_bytes q s) offset) (no_segment_past d o t past) ∙ sym (ap (read_at o) (nowhere d owned t offset past))
  ]

  same_at : (a : ℕ) → flat_seen (process_at (state_in d o) q).bytes (state_in d o).segments q a ≡ read_at o (mapped d q owned a)
  same_at a = elim (cases_lt a 1073741824) [
    | inl low ↦ flat_low (process_at (state_in d o) q).bytes (state_in d o).segments q a low ∙ private_same a low
    | inr high ↦
        flat_high (process_at (state_in d o) q).bytes (state_in d o).segments q a high
        ∙ shared_same (segment_number a) (offset_of a)
        ∙ sym (ap (read_at o) (mapped_high d q owned a (private_small d q described there) high))
  ]

  -- they see the same bytes
  pub same_memory : flat_seen (process_at (state_in d o) q).bytes (state_in d o).segments q ≡ seen d q owned o
  unfolding seen
  same_memory = fun_ext (λ a. same_at a)
