-- After the store of an instruction the memory still shows the flat state's.
use Rattle.std.proofs.Common.{◌≡◌, ◌≢◌, ℕ, ◌+◌, ◌*◌, ◌/◌, ◌%◌, ◌^◌, ◌<◌, ◌≤◌, true, List, length, get_or, set, count_ones, Option, Some, None, arith, refl, sym, ◌∙◌, ap, subst, inl, inr, get_or-set_same, get_or-set_other, zero-add}
use Rattle.std.proofs.lemmas.Bool.{cases_lt, cases_eq, eqb-true}
use Rattle.std.proofs.lemmas.Nat.{ones_cat, zero_from_ones, div-add-mod', pow_pos, mod_below}
use Rattle.seq_words.specs.Masks.{has_bit}
use Rattle.seq_words.specs.declared.description.MachineDesc.{MachineDesc}
use Rattle.seq_words.specs.Description.{process_of}
use Rattle.seq_rv32.specs.Widths.{IsWidth}
use Rattle.seq_rv32.specs.ByteMemory.{bytes_stored}
use Rattle.seq_flat.specs.declared.state.SegmentState.{SegmentState}
use Rattle.seq_flat.specs.declared.state.LineState.{LineState}
use Rattle.seq_flat.specs.declared.state.FlatState.{FlatState}
use Rattle.seq_flat.specs.State.{no_segment, process_at, segment_at, line_at}
use Rattle.seq_flat.specs.Memory.{is_owner, segment_of as segment_number, offset_of}
use Rattle.seq_flat.specs.Step.{bytes_next, moved}
use Rattle.seq_flat.proofs.Stores.{IsShared, bytes_after_low, bytes_after_high, segments_after_low, segments_after_high}
use Rattle.seq_layout.specs.Shapes.{shape_of, index_of, segment_extent}
use Rattle.seq_layout.specs.Copies.{Copies}
use Rattle.seq_process.specs.declared.running.Running.{Running}
use Rattle.seq_cache.specs.Changes.{Changes}
use Rattle.seq_segments.specs.Map.{before_private, mapped}
use Rattle.seq_kernel.specs.Views.{Blocks, byte_in, read_by, stored_at, stored}
use Rattle.seq_kernel.specs.Calls.{lines_of, line_index}
use Rattle.seq_kernel.specs.Bounds.{IsRunning}
use Rattle.seq_kernel.specs.Shown.{HoldBytes, outbox_byte, ShowsLine, ShowsSegment, Shows}
use Rattle.seq_kernel.proofs.RefineStepsBytes.{put_out, read_after, read_whole, byte_after, byte_elsewhere, hold_stored, hold_elsewhere}
use Rattle.seq_flat.proofs.Moved.{segment_stored, owner_kept, moved_segment, moved_line}

-- an owned line's number is below the count of lines
pub index_below : (lines l : ℕ) → has_bit lines l ≡ true → index_of lines l < count_ones lines
index_below lines l owned =
    let split : lines / 2 ^ l * 2 ^ l + lines % 2 ^ l ≡ lines = div-add-mod' lines (2 ^ l) in
    let low : lines % 2 ^ l < 2 ^ l = mod_below lines (2 ^ l) (pow_pos l) in
    let total : count_ones lines ≡ count_ones (lines / 2 ^ l) + count_ones (lines % 2 ^ l) = ap count_ones (sym split) ∙ ones_cat l (lines / 2 ^ l) (lines % 2 ^ l) low in
    let one : lines / 2 ^ l % 2 ≡ 1 = eqb-true (lines / 2 ^ l % 2) 1 owned in
    let some : 0 < count_ones (lines / 2 ^ l) = positive (lines / 2 ^ l) one in
    omega arith
  where
    positive : (n : ℕ) → n % 2 ≡ 1 → 0 < count_ones n
    positive n odd = elim (cases_lt 0 (count_ones n)) [
      | inl more ↦ more
      | inr none ↦ absurd (let zero_ones : count_ones n ≡ 0 = omega arith in let nothing : n ≡ 0 = zero_from_ones n zero_ones in omega arith)
    ]

-- the memory that a running process shows, but for registers and end
pub record ShowsMemory (d : MachineDesc) (g : FlatState) (o : Blocks) (r : Running) (bytes : List ℕ) : Type 0 where
  pub whole : (e n : ℕ) → length (o e n).bytes ≡ 32
  pub private : HoldBytes o r.pid.0 (before_private (process_of d r.pid.0)) bytes
  pub segment : (t : ℕ) → t < length d.segments → ShowsSegment d g o r t
  pub line : (l : ℕ) → has_bit (lines_of d r) l ≡ true → ShowsLine d g o r l

-- a segment and a line that stay
segment_kept : (d : MachineDesc) (f g : FlatState) (o o' : Blocks) (r : Running) (t : ℕ) → segment_at g t ≡ segment_at f t → (HoldBytes o (segment_extent (shape_of d) t) 0 (segment_at f t).bytes → HoldBytes o' (segment_extent (shape_of d) t) 0 (segment_at f t).bytes) → ShowsSegment d f o r t → ShowsSegment d g o' r t
segment_kept d f g o o' r t same keeps shows = record {
  held = shows.held ∙ ap (λ (s : SegmentState). is_owner r.pid.0 s.owner) (sym same);
  bytes = λ held. subst (λ (s : SegmentState). HoldBytes o' (segment_extent (shape_of d) t) 0 s.bytes) (sym same) (keeps (shows.bytes held));
}

line_kept : (d : MachineDesc) (f g : FlatState) (o o' : Blocks) (r : Running) (l : ℕ) → line_at g l ≡ line_at f l → ((q : ℕ) → q < 256 → byte_in o' r.pid.0 (256 + 256 * line_index d r l + q) ≡ byte_in o r.pid.0 (256 + 256 * line_index d r l + q)) → ShowsLine d f o r l → ShowsLine d g o' r l
line_kept d f g o o' r l same keeps shows = record {
  read = shows.read ∙ ap (λ (n : LineState). n.read) (sym same);
  written = shows.written ∙ ap (λ (n : LineState). length n.output) (sym same);
  outbox = λ q lt. keeps q lt ∙ shows.outbox q lt ∙ ap (λ (n : LineState). outbox_byte n.output q) (sym same);
}

-- an instruction without a store
pub none_stored : (d : MachineDesc) (f : FlatState) (o : Blocks) (r : Running) (wrote : Option (ℕ × ℕ)) (next : ℕ) → Shows d f o r → ShowsMemory d (moved f r.pid.0 wrote None next) o r (process_at f r.pid.0).bytes
none_stored d f o r wrote next shows =
    let g : FlatState = moved f r.pid.0 wrote None next in
    record {
      whole = shows.whole;
      private = shows.private;
      segment = λ t there. segment_kept d f g o o r t (moved_segment f r.pid.0 wrote None next t) (λ h. h) (shows.segment t there);
      line = λ l owned. line_kept d f g o o r l (moved_line f r.pid.0 wrote None next l) (λ q lt. refl) (shows.line l owned);
    }

-- what is read after the store at an address, by the place to which it is mapped
pub read_stored : (d : MachineDesc) (p : Copies) (c : Changes) (pid held at width v e x : ℕ) → mapped d pid held at ≡ Some (record { 0 = e }, x) → read_by d p (stored d pid held p c at width v) ≡ read_after d p c e x width v
unfolding stored
read_stored d p c pid held at width v e x place = ap (λ m. read_by d p (stored_at (read_by d p c) c m width v)) place

-- a private store stays in one block
private_block : (n at width : ℕ) → IsWidth width → at % width ≡ 0 → (256 + 256 * n + at) % 32 + width ≤ 32
private_block n at width (inl e) aligned = omega arith
private_block n at width (inr (inl e)) aligned = let even : at % 2 ≡ 0 = subst (λ w. at % w ≡ 0) e aligned in omega arith
private_block n at width (inr (inr e)) aligned = let four : at % 4 ≡ 0 = subst (λ w. at % w ≡ 0) e aligned in omega arith

-- the outboxes stand before the private bytes
outbox_before : (d : MachineDesc) (r : Running) (l at q : ℕ) → has_bit (lines_of d r) l ≡ true → q < 256 → 256 + 256 * line_index d r l + q < before_private (process_of d r.pid.0) + at
outbox_before d r l at q owned lt = let below : line_index d r l < count_ones (lines_of d r) = index_below (lines_of d r) l owned in omega arith

-- a store among the private bytes
pub low_stored : (d : MachineDesc) (f : FlatState) (p : Copies) (c : Changes) (r : Running) (wrote : Option (ℕ × ℕ)) (at width v next : ℕ)
    → IsRunning d r → Shows d f (read_by d p c) r → IsWidth width → at % width ≡ 0 → at < 0x40000000 → at + width ≤ length (process_at f r.pid.0).bytes
    → ShowsMemory d (moved f r.pid.0 wrote (Some (at, width, v)) next) (read_after d p c r.pid.0 (before_private (process_of d r.pid.0) + at) width v) r (bytes_next (process_at f r.pid.0).bytes (Some (at, width, v)))
low_stored d f p c r wrote at width v next running shows wide aligned low inside =
    let g : FlatState = moved f r.pid.0 wrote (Some (at, width, v)) next in
    let x : ℕ = before_private (process_of d r.pid.0) + at in
    let block : x % 32 + width ≤ 32 = private_block (count_ones (process_of d r.pid.0).lines) at width wide aligned in
    record {
      whole = read_whole d p c r.pid.0 x width v shows.whole;
      private = subst (λ (xs : List ℕ). HoldBytes (read_after d p c r.pid.0 x width v) r.pid.0 (before_private (process_of d r.pid.0)) xs) (sym (bytes_after_low (process_at f r.pid.0).bytes at width v low))
          (hold_stored d p c r.pid.0 (before_private (process_of d r.pid.0)) x at width v (process_at f r.pid.0).bytes (λ n. shows.whole r.pid.0 n) shows.private refl block inside);
      segment = λ t there. segment_kept d f g (read_by d p c) (read_after d p c r.pid.0 x width v) r t
          (moved_segment f r.pid.0 wrote (Some (at, width, v)) next t ∙ ap (λ xs. get_or xs t no_segment) (segments_after_low f.segments at width v low))
          (λ h. hold_elsewhere d p c r.pid.0 x width v (segment_extent (shape_of d) t) 0 (segment_at f t).bytes (λ e. let process = running.within.process in omega arith) h)
          (shows.segment t there);
      line = λ l owned. line_kept d f g (read_by d p c) (read_after d p c r.pid.0 x width v) r l
          (moved_line f r.pid.0 wrote (Some (at, width, v)) next l)
          (λ q lt. byte_after d p c r.pid.0 x width v (256 + 256 * line_index d r l + q) (λ n. shows.whole r.pid.0 n) block
          ∙ put_out (byte_in (read_by d p c) r.pid.0) x width v (256 + 256 * line_index d r l + q) (inl (outbox_before d r l at q owned lt)))
          (shows.line l owned);
    }

-- a store stays in one block of its segment
shared_block : (at width : ℕ) → IsWidth width → at % width ≡ 0 → 0x40000000 ≤ at → offset_of at % 32 + width ≤ 32
shared_block at width (inl e) aligned high = omega arith
shared_block at width (inr (inl e)) aligned high = let even : at % 2 ≡ 0 = subst (λ w. at % w ≡ 0) e aligned in omega arith
shared_block at width (inr (inr e)) aligned high = let four : at % 4 ≡ 0 = subst (λ w. at % w ≡ 0) e aligned in omega arith

-- the segments after the store, and each of them
abbrev segments_stored : FlatState → ℕ → ℕ → ℕ → List SegmentState
segments_stored f at width v = set f.segments (segment_number at) (segment_stored (segment_at f (segment_number at)) (offset_of at) width v)

high_segment : (f : FlatState) (pid : ℕ) (wrote : Option (ℕ × ℕ)) (at width v next t : ℕ) → 0x40000000 ≤ at → segment_at (moved f pid wrote (Some (at, width, v)) next) t ≡ get_or (segments_stored f at width v) t no_segment
high_segment f pid wrote at width v next t high =
    moved_segment f pid wrote (Some (at, width, v)) next t
    ∙ ap (λ xs. get_or xs t no_segment) (segments_after_high f.segments at width v high)

high_owner : (d : MachineDesc) (f : FlatState) (o : Blocks) (r : Running) (wrote : Option (ℕ × ℕ)) (store : Option (ℕ × ℕ × ℕ)) (next t : ℕ) → ShowsSegment d f o r t → has_bit r.held t ≡ is_owner r.pid.0 (segment_at (moved f r.pid.0 wrote store next) t).owner
high_owner d f o r wrote store next t shows =
    shows.held
    ∙ ap (is_owner r.pid.0) (sym (owner_kept f.segments store t))
    ∙ ap (λ (s : SegmentState). is_owner r.pid.0 s.owner) (sym (moved_segment f r.pid.0 wrote store next t))

-- the bytes of each segment after the store
high_bytes : (d : MachineDesc) (f : FlatState) (p : Copies) (c : Changes) (r : Running) (at width v t : ℕ)
    → ((e n : ℕ) → length (read_by d p c e n).bytes ≡ 32) → ShowsSegment d f (read_by d p c) r t → IsWidth width → at % width ≡ 0 → 0x40000000 ≤ at → IsShared f.segments r.pid.0 at width → has_bit r.held t ≡ true
    → HoldBytes (read_after d p c (segment_extent (shape_of d) (segment_number at)) (offset_of at) width v) (segment_extent (shape_of d) t) 0 (get_or (segments_stored f at width v) t no_segment).bytes
high_bytes d f p c r at width v t whole shows wide aligned high shared held =
    let i : ℕ = segment_number at in
    let o' : Blocks = read_after d p c (segment_extent (shape_of d) i) (offset_of at) width v in
    elim (cases_eq t i) [
      | inl same ↦
          let here : get_or (segments_stored f at width v) t no_segment ≡ segment_stored (segment_at f i) (offset_of at) width v = ap (λ k. get_or (segments_stored f at width v) k no_segment) same ∙ get_or-set_same f.segments i (segment_stored (segment_at f i) (offset_of at) width v) no_segment shared.there in
          let old : HoldBytes (read_by d p c) (segment_extent (shape_of d) i) 0 (segment_at f i).bytes = subst (λ k. HoldBytes (read_by d p c) (segment_extent (shape_of d) k) 0 (segment_at f k).bytes) same (shows.bytes held) in
          let new : HoldBytes o' (segment_extent (shape_of d) i) 0 (bytes_stored (segment_at f i).bytes (offset_of at) width v) = hold_stored d p c (segment_extent (shape_of d) i) 0 (offset_of at) (offset_of at) width v (segment_at f i).bytes (λ n. whole (segment_extent (shape_of d) i) n) old (sym (zero-add (offset_of at))) (shared_block at width wide aligned high) shared.inside in
          subst (λ k. HoldBytes o' (segment_extent (shape_of d) k) 0 (get_or (segments_stored f at width v) t no_segment).bytes) (sym same)
          (subst (λ (s : SegmentState). HoldBytes o' (segment_extent (shape_of d) i) 0 s.bytes) (sym here) new)
      | inr other ↦
          subst (λ (s : SegmentState). HoldBytes o' (segment_extent (shape_of d) t) 0 s.bytes) (sym (get_or-set_other f.segments i t (segment_stored (segment_at f i) (offset_of at) width v) no_segment other))
          (hold_elsewhere d p c (segment_extent (shape_of d) i) (offset_of at) width v (segment_extent (shape_of d) t) 0 (segment_at f t).bytes (λ e. other (omega arith)) (shows.bytes held))
    ]

-- a store in a segment
pub high_stored : (d : MachineDesc) (f : FlatState) (p : Copies) (c : Changes) (r : Running) (wrote : Option (ℕ × ℕ)) (at width v next : ℕ)
    → IsRunning d r → Shows d f (read_by d p c) r → IsWidth width → at % width ≡ 0 → 0x40000000 ≤ at → IsShared f.segments r.pid.0 at width
    → ShowsMemory d (moved f r.pid.0 wrote (Some (at, width, v)) next) (read_after d p c (segment_extent (shape_of d) (segment_number at)) (offset_of at) width v) r (bytes_next (process_at f r.pid.0).bytes (Some (at, width, v)))
high_stored d f p c r wrote at width v next running shows wide aligned high shared =
    let g : FlatState = moved f r.pid.0 wrote (Some (at, width, v)) next in
    let e : ℕ = segment_extent (shape_of d) (segment_number at) in
    let apart : r.pid.0 ≢ e = (λ same. let process = running.within.process in omega arith) in
    record {
      whole = read_whole d p c e (offset_of at) width v shows.whole;
      private = subst (λ (xs : List ℕ). HoldBytes (read_after d p c e (offset_of at) width v) r.pid.0 (before_private (process_of d r.pid.0)) xs) (sym (bytes_after_high (process_at f r.pid.0).bytes at width v high))
          (hold_elsewhere d p c e (offset_of at) width v r.pid.0 (before_private (process_of d r.pid.0)) (process_at f r.pid.0).bytes apart shows.private);
      segment = λ t there. record {
        held = high_owner d f (read_by d p c) r wrote (Some (at, width, v)) next t (shows.segment t there);
        bytes = λ held. subst (λ (s : SegmentState). HoldBytes (read_after d p c e (offset_of at) width v) (segment_extent (shape_of d) t) 0 s.bytes) (sym (high_segment f r.pid.0 wrote at width v next t high))
            (high_bytes d f p c r at width v t shows.whole (shows.segment t there) wide aligned high shared held);
      };
      line = λ l owned. line_kept d f g (read_by d p c) (read_after d p c e (offset_of at) width v) r l
          (moved_line f r.pid.0 wrote (Some (at, width, v)) next l)
          (λ q lt. byte_elsewhere d p c e (offset_of at) width v r.pid.0 (256 + 256 * line_index d r l + q) apart)
          (shows.line l owned);
    }
