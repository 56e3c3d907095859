-- How many blocks and words the extents of a machine have.
use Rattle.std.proofs.Common.{◌≡◌, ℕ, ◌+◌, ◌/◌, ◌<◌, ◌≤◌, List, ◌++◌, length, get_or, map, replicate, arith, ◌∙◌, length-append}
use Rattle.std.specs.Prelude.{count_ones, All}
use Rattle.std.proofs.lemmas.List.{get_or_append_left, get_or-append-add, get_or-map, get_or-replicate, length-map, length-replicate}
use Rattle.std.proofs.lemmas.List.Elements.{All-get_or, All-append, All-map, All-replicate, All-weaker}
use Rattle.std.proofs.lemmas.List.Sums.{sum_by-le}
use Rattle.seq_words.specs.Description.{IsBetween, IsDescription, IsProcess, IsSegment, IsSize, line_count, no_process}
use Rattle.seq_words.specs.declared.description.MachineDesc.{MachineDesc}
use Rattle.seq_words.specs.declared.description.ProcessDesc.{ProcessDesc}
use Rattle.seq_words.specs.declared.description.SegmentDesc.{SegmentDesc}
use Rattle.seq_layout.specs.Places.{IsPlace}
use Rattle.seq_layout.specs.Shapes.{shape_of, process_blocks, blocks_of, words_of, process_extent, segment_extent, line_extent}

-- an element of each of three joined lists
module _ (xs ys zs : List ℕ) where
  in_first : (i : ℕ) → i < length xs → get_or (xs ++ ys ++ zs) i 0 ≡ get_or xs i 0
  in_first i below =
      let inside : i < length (xs ++ ys) = omega (arith, length-append xs ys) in
      get_or_append_left (xs ++ ys) zs 0 i inside ∙ get_or_append_left xs ys 0 i below

  in_second : (i : ℕ) → i < length ys → get_or (xs ++ ys ++ zs) (length xs + i) 0 ≡ get_or ys i 0
  in_second i below =
      let inside : length xs + i < length (xs ++ ys) = omega (arith, length-append xs ys) in
      get_or_append_left (xs ++ ys) zs 0 (length xs + i) inside ∙ get_or-append-add xs ys i 0

  in_third : (i : ℕ) → get_or (xs ++ ys ++ zs) (length xs + length ys + i) 0 ≡ get_or zs i 0
  in_third i = rw (← length-append xs ys) (get_or-append-add (xs ++ ys) zs i 0)

  length_joined : length (xs ++ ys ++ zs) ≡ length xs + length ys + length zs
  length_joined = omega (arith, length-append (xs ++ ys) zs, length-append xs ys)

-- a size of whole blocks is at least one block
whole_blocks : (most size : ℕ) → IsSize most size → IsBetween 1 (most / 32) (size / 32)
whole_blocks most size is = record { low_at = omega (arith, is.between.low_at); high_at = omega (arith, is.between.high_at) }

process_between : (segments : ℕ) (p : ProcessDesc) → IsProcess segments p → IsBetween 1 2088 (process_blocks p)
process_between segments p is =
    let own = whole_blocks 65536 p.size is.size in
    record { low_at = omega arith; high_at = omega (arith, own.high_at, is.few) }

segment_between : (s : SegmentDesc) → IsSegment s → IsBetween 1 2088 (s.size / 32)
segment_between s is =
    let own = whole_blocks 16384 s.size is.size in
    record { low_at = own.low_at; high_at = omega (arith, own.high_at) }

line_between : (d : MachineDesc) → IsDescription d → IsBetween 1 2088 (d.journal / 32)
line_between d is =
    let own = whole_blocks 65536 d.journal is.journal in
    record { low_at = own.low_at; high_at = omega (arith, own.high_at) }

-- every extent has at least one block, and at most so many
pub blocks_between : (d : MachineDesc) → IsDescription d → All (IsBetween 1 2088) (blocks_of d)
blocks_between d is =
    let P : ℕ → Type 0 = IsBetween 1 2088 in
    let processes = All-map P process_blocks d.processes (All-weaker (IsProcess (length d.segments)) (λ p. P (process_blocks p)) (process_between (length d.segments)) d.processes is.each_process) in
    let segments = All-map P (λ (s : SegmentDesc). s.size / 32) d.segments (All-weaker IsSegment (λ s. P (s.size / 32)) segment_between d.segments is.each_segment) in
    let lines = All-replicate P (line_count d) (d.journal / 32) (line_between d is) in
    All-append P _ _ (All-append P _ _ processes segments) lines

-- every extent has at least one word, and at most three
pub words_between : (d : MachineDesc) → All (IsBetween 1 3) (words_of d)
words_between d =
    let P : ℕ → Type 0 = IsBetween 1 3 in
    let one : P 1 = record { low_at = omega arith; high_at = omega arith } in
    let three : P 3 = record { low_at = omega arith; high_at = omega arith } in
    All-append P _ _ (All-append P _ _ (All-replicate P (length d.processes) 1 one) (All-replicate P (length d.segments) 1 one)) (All-replicate P (line_count d) 3 three)

-- the number of extents
pub length_blocks : (d : MachineDesc) → length (blocks_of d) ≡ length d.processes + length d.segments + line_count d
length_blocks d = simp (length-append, length-map, length-replicate)

pub length_words : (d : MachineDesc) → length (words_of d) ≡ length d.processes + length d.segments + line_count d
length_words d = simp (length-append, length-replicate)

-- a machine has few lines, and few extents
pub lines_few : (d : MachineDesc) → IsDescription d → line_count d ≤ 64
lines_few d is = omega (arith, is.processes.high_at, sum_by-le (λ (p : ProcessDesc). count_ones p.lines) 4 d.processes (All-weaker (IsProcess (length d.segments)) (λ p. count_ones p.lines ≤ 4) (λ p h. h.few) d.processes is.each_process))

pub extents_few : (d : MachineDesc) → IsDescription d → length (blocks_of d) ≤ 96
extents_few d is = omega (arith, length_blocks d, lines_few d is, is.processes.high_at, is.segments)

-- every extent has block 0 and word 0
pub extent_has_block : (d : MachineDesc) (e : ℕ) → IsDescription d → e < length (shape_of d).blocks → IsPlace (shape_of d).blocks e 0
extent_has_block d e is inside =
    let size = All-get_or (IsBetween 1 2088) (blocks_of d) e 0 inside (blocks_between d is) in
    record { extent_in = inside; part_in = omega (arith, size.low_at) }

pub extent_has_word : (d : MachineDesc) (e : ℕ) → e < length (shape_of d).blocks → IsPlace (shape_of d).words e 0
extent_has_word d e inside =
    let inside_words : e < length (words_of d) = omega (arith, inside, length_blocks d, length_words d) in
    let size = All-get_or (IsBetween 1 3) (words_of d) e 0 inside_words (words_between d) in
    record { extent_in = inside_words; part_in = omega (arith, size.low_at) }

-- the extents of processes, segments and lines are extents
pub process_is_extent : (d : MachineDesc) (p : ℕ) → p < length d.processes → process_extent p < length (shape_of d).blocks
process_is_extent d p below = omega (arith, below, length_blocks d)

pub segment_is_extent : (d : MachineDesc) (s : ℕ) → s < length d.segments → segment_extent (shape_of d) s < length (shape_of d).blocks
segment_is_extent d s below = omega (arith, below, length_blocks d)

pub line_is_extent : (d : MachineDesc) (l : ℕ) → l < line_count d → line_extent (shape_of d) l < length (shape_of d).blocks
line_is_extent d l below = omega (arith, below, length_blocks d)

-- the three parts of the list of blocks
abbrev of_processes : MachineDesc → List ℕ
of_processes d = map process_blocks d.processes

abbrev of_segments : MachineDesc → List ℕ
of_segments d = map (λ (s : SegmentDesc). s.size / 32) d.segments

abbrev of_lines : MachineDesc → List ℕ
of_lines d = replicate (line_count d) (d.journal / 32)

process_size : (d : MachineDesc) (p : ℕ) (none : ProcessDesc) → p < length d.processes → get_or (blocks_of d) p 0 ≡ process_blocks (get_or d.processes p none)
process_size d p none below =
    let inside : p < length (of_processes d) = omega (arith, length-map d.processes process_blocks) in
    in_first (of_processes d) (of_segments d) (of_lines d) p inside ∙ get_or-map process_blocks d.processes p none 0 below

segment_size : (d : MachineDesc) (s : ℕ) (none : SegmentDesc) → s < length d.segments → get_or (blocks_of d) (length d.processes + s) 0 ≡ (get_or d.segments s none).size / 32
segment_size d s none below =
    let inside : s < length (of_segments d) = omega (arith, length-map d.segments (λ (s : SegmentDesc). s.size / 32)) in
    let place : length d.processes + s ≡ length (of_processes d) + s = omega (arith, length-map d.processes process_blocks) in
    rw place (in_second (of_processes d) (of_segments d) (of_lines d) s inside ∙ get_or-map (λ (s : SegmentDesc). s.size / 32) d.segments s none 0 below)

line_size : (d : MachineDesc) (l : ℕ) → l < line_count d → get_or (blocks_of d) (length d.processes + length d.segments + l) 0 ≡ d.journal / 32
line_size d l below =
    let place : length d.processes + length d.segments + l ≡ length (of_processes d) + length (of_segments d) + l = omega (arith, length-map d.processes process_blocks, length-map d.segments (λ (s : SegmentDesc). s.size / 32)) in
    rw place (in_third (of_processes d) (of_segments d) (of_lines d) l ∙ get_or-replicate (line_count d) l (d.journal / 32) 0 below)

-- a line has three words
line_words : (d : MachineDesc) (l : ℕ) → l < line_count d → get_or (words_of d) (length d.processes + length d.segments + l) 0 ≡ 3
line_words d l below =
    let ones : ℕ → List ℕ = λ n. replicate n 1 in
    let place : length d.processes + length d.segments + l ≡ length (ones (length d.processes)) + length (ones (length d.segments)) + l = omega (arith, length-replicate {A = ℕ} (length d.processes) 1, length-replicate {A = ℕ} (length d.segments) 1) in
    rw place (in_third (ones (length d.processes)) (ones (length d.segments)) (replicate (line_count d) 3) l ∙ get_or-replicate (line_count d) l 3 0 below)

-- the blocks of a process, of a segment, of a line
pub process_has_blocks : (d : MachineDesc) (p n : ℕ) (none : ProcessDesc) → p < length d.processes → n < process_blocks (get_or d.processes p none) → IsPlace (shape_of d).blocks (process_extent p) n
process_has_blocks d p n none below few = record { extent_in = process_is_extent d p below; part_in = rw (process_size d p none below) few }

pub segment_has_blocks : (d : MachineDesc) (s n : ℕ) (none : SegmentDesc) → s < length d.segments → n < (get_or d.segments s none).size / 32 → IsPlace (shape_of d).blocks (segment_extent (shape_of d) s) n
segment_has_blocks d s n none below few = record { extent_in = segment_is_extent d s below; part_in = rw (segment_size d s none below) few }

pub line_has_blocks : (d : MachineDesc) (l n : ℕ) → l < line_count d → n < d.journal / 32 → IsPlace (shape_of d).blocks (line_extent (shape_of d) l) n
line_has_blocks d l n below few = record { extent_in = line_is_extent d l below; part_in = rw (line_size d l below) few }

-- a process has its eight blocks of context
pub process_has_context : (d : MachineDesc) (p k : ℕ) → p < length d.processes → k < 8 → IsPlace (shape_of d).blocks (process_extent p) k
process_has_context d p k below few = process_has_blocks d p k no_process below (omega (arith, few))

-- a process has its status word, a segment its lock word, a line its three words
pub process_has_status : (d : MachineDesc) (p : ℕ) → p < length d.processes → IsPlace (shape_of d).words (process_extent p) 0
process_has_status d p below = extent_has_word d p (process_is_extent d p below)

pub segment_has_lock : (d : MachineDesc) (s : ℕ) → s < length d.segments → IsPlace (shape_of d).words (segment_extent (shape_of d) s) 0
segment_has_lock d s below = extent_has_word d (segment_extent (shape_of d) s) (segment_is_extent d s below)

pub line_has_counts : (d : MachineDesc) (l w : ℕ) → l < line_count d → w < 3 → IsPlace (shape_of d).words (line_extent (shape_of d) l) w
line_has_counts d l w below few =
    let inside : line_extent (shape_of d) l < length (words_of d) = omega (arith, below, length_words d) in
    record { extent_in = inside; part_in = rw (line_words d l below) few }
