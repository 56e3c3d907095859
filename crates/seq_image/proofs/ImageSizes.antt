-- How many blocks the processes and segments of a description have.
use Rattle.std.proofs.Common.{◌≡◌, ℕ, ◌+◌, ◌/◌, ◌%◌, ◌<◌, ◌≤◌, List, ◌++◌, length, get_or, map, replicate, arith, ◌∙◌, length-append, subst}
use Rattle.std.specs.Prelude.{count_ones}
use Rattle.std.proofs.lemmas.List.{get_or_append_left, get_or-append-add, get_or-map, length-map}
use Rattle.seq_words.specs.Description.{IsDescription, line_count, process_of, segment_of, no_process, no_segment}
use Rattle.seq_words.specs.declared.description.MachineDesc.{MachineDesc}
use Rattle.seq_words.specs.declared.description.SegmentDesc.{SegmentDesc}
use Rattle.seq_layout.specs.Places.{IsPlace}
use Rattle.seq_layout.specs.Shapes.{shape_of, process_blocks, blocks_of}

abbrev of_processes : MachineDesc → List ℕ
of_processes d = map process_blocks d.processes

abbrev of_segments : MachineDesc → List ℕ
of_segments d = map (λ (s : SegmentDesc). s.size / 32) d.segments

abbrev of_lines : MachineDesc → List ℕ
of_lines d = replicate (line_count d) (d.journal / 32)

process_size : (d : MachineDesc) (p : ℕ) → p < length d.processes → get_or (blocks_of d) p 0 ≡ process_blocks (process_of d p)
process_size d p below =
    let inside : p < length (of_processes d) = omega (arith, length-map d.processes process_blocks) in
    let both : p < length (of_processes d ++ of_segments d) = omega (arith, length-append (of_processes d) (of_segments d)) in
    get_or_append_left (of_processes d ++ of_segments d) (of_lines d) 0 p both ∙ get_or_append_left (of_processes d) (of_segments d) 0 p inside ∙ get_or-map process_blocks d.processes p no_process 0 below

segment_size : (d : MachineDesc) (t : ℕ) → t < length d.segments → get_or (blocks_of d) (length d.processes + t) 0 ≡ (segment_of d t).size / 32
segment_size d t below =
    let place : length d.processes + t ≡ length (of_processes d) + t = omega (arith, length-map d.processes process_blocks) in
    let inside : length (of_processes d) + t < length (of_processes d ++ of_segments d) = omega (arith, length-append (of_processes d) (of_segments d), length-map d.segments (λ (s : SegmentDesc). s.size / 32)) in
    rw place (get_or_append_left (of_processes d ++ of_segments d) (of_lines d) 0 (length (of_processes d) + t) inside ∙ get_or-append-add (of_processes d) (of_segments d) t 0 ∙ get_or-map (λ (s : SegmentDesc). s.size / 32) d.segments t no_segment 0 below)

pub below_process_size : (d : MachineDesc) (p n : ℕ) → p < length d.processes → IsPlace (shape_of d).blocks p n → n < process_blocks (process_of d p)
below_process_size d p n below is = subst (λ size. n < size) (process_size d p below) is.part_in

pub below_segment_size : (d : MachineDesc) (t n : ℕ) → t < length d.segments → IsPlace (shape_of d).blocks (length d.processes + t) n → n < (segment_of d t).size / 32
below_segment_size d t n below is = subst (λ size. n < size) (segment_size d t below) is.part_in

-- sizes are of whole blocks
pub process_whole : (d : MachineDesc) (p : ℕ) → IsDescription d → p < length d.processes → (process_of d p).size % 32 ≡ 0
process_whole d p described below = (described.each_process p no_process below).size.whole

pub segment_whole : (d : MachineDesc) (t : ℕ) → IsDescription d → t < length d.segments → (segment_of d t).size % 32 ≡ 0
segment_whole d t described below = (described.each_segment t no_segment below).size.whole

-- a process has at most four lines
pub lines_of_four : (d : MachineDesc) (p : ℕ) → IsDescription d → p < length d.processes → count_ones (process_of d p).lines ≤ 4
lines_of_four d p described below = (described.each_process p no_process below).few
