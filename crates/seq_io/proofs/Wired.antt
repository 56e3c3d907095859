-- The machine of a description has what an I/O element reads of its lines.
use Rattle.std.proofs.Common.{◌≡◌, ℕ, ◌+◌, ◌*◌, ◌/◌, ◌<◌, ◌≤◌, true, length, get_or, Some, slice_get, arith, refl, sym, ◌∙◌}
use Rattle.std.specs.Prelude.{count_ones, slice_index}
use Rattle.std.proofs.lemmas.List.FromFn.{length-map-range_with_len}
use Rattle.std.proofs.lemmas.Option.{slice_get-get_or}
use Rattle.seq_words.specs.Masks.{has_bit}
use Rattle.seq_words.specs.Description.{IsDescription, line_count, no_process}
use Rattle.seq_words.specs.declared.description.MachineDesc.{MachineDesc}
use Rattle.seq_words.specs.declared.names.Pid.{Pid}
use Rattle.seq_layout.specs.Places.{IsPlace}
use Rattle.seq_layout.specs.Shapes.{shape_of, owner_from, owners_of, Owns, line_extent, index_of}
use Rattle.seq_layout.proofs.Owners.{index_below, line_owned}
use Rattle.seq_layout.proofs.Sizes.{lines_few, process_has_blocks, process_has_context, line_has_counts, line_is_extent}
use Rattle.seq_io.specs.Lines.{owner}
use Rattle.seq_io.specs.Bounds.{journal_blocks, IsWired, MachinesAreWired}

-- there are as many owners as lines
owners_are : (d : MachineDesc) → length (shape_of d).owners ≡ line_count d
owners_are d = length-map-range_with_len (owner_from 0 d.processes) 0 (line_count d)

owns : (d : MachineDesc) (l : ℕ) → IsDescription d → l < line_count d → Owns d l (owner (shape_of d) l).0.0 (owner (shape_of d) l).1
owns d l is below =
    let inside : l < length (owners_of d) = rw (owners_are d) below in
    rw (slice_get-get_or (owners_of d) l (record { 0 = 0 }, 0) inside) at (line_owned d l is below)

outbox_place : (d : MachineDesc) (l k : ℕ) → IsDescription d → l < line_count d → k < 8 → IsPlace (shape_of d).blocks (owner (shape_of d) l).0.0 (8 + 8 * (owner (shape_of d) l).1 + k)
outbox_place d l k is below inside =
    let o = owns d l is below in
    let few : (owner (shape_of d) l).1 < count_ones (get_or d.processes (owner (shape_of d) l).0.0 no_process).lines =
    rw (o.number no_process) (index_below (get_or d.processes (owner (shape_of d) l).0.0 no_process).lines l (o.owned no_process)) in
    process_has_blocks d (owner (shape_of d) l).0.0 (8 + 8 * (owner (shape_of d) l).1 + k) no_process o.process (omega arith)

pub wired : MachinesAreWired
wired d is = record {
  few = rw (owners_are d) (lines_few d is);
  owned = λ l h. (owns d l is (rw (owners_are d) at h)).process;
  index = λ l h. (owns d l is (rw (owners_are d) at h)).few;
  context = λ l k h. process_has_context d (owner (shape_of d) l).0.0 k (owns d l is (rw (owners_are d) at h)).process;
  outbox = λ l k h. outbox_place d l k is (rw (owners_are d) at h);
  counts = λ l w h. line_has_counts d l w (rw (owners_are d) at h);
  journal = λ l k h inside. record { extent_in = line_is_extent d l (rw (owners_are d) at h); part_in = inside };
}
