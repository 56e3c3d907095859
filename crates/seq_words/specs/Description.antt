-- Which descriptions describe a machine, and what stands in one.
use Rattle.std.specs.Prelude.{◌≡◌, ◌≤◌, ◌<◌, ◌%◌, ℕ, Bool, true, List, [], length, All, count_by, sum_by, count_ones, if◌then◌else◌, nat_lt, slice_index_or}
use Rattle.seq_words.specs.Masks.{has_bit}
use Rattle.seq_words.specs.declared.description.MachineDesc.{MachineDesc}
use Rattle.seq_words.specs.declared.description.SegmentDesc.{SegmentDesc}
use Rattle.seq_words.specs.declared.description.ProcessDesc.{ProcessDesc}

-- what stands where there is no such process or segment
abbrev pub no_process : ProcessDesc
no_process = record { size = 0; entry = 0; image = []; lines = 0; grants = 0 }

abbrev pub no_segment : SegmentDesc
no_segment = record { size = 0; first = [] }

-- process p, and segment s, of a description
abbrev pub process_of : MachineDesc → ℕ → ProcessDesc
process_of d p = slice_index_or d.processes p no_process

abbrev pub segment_of : MachineDesc → ℕ → SegmentDesc
segment_of d s = slice_index_or d.segments s no_segment

-- from the first number to the second, both included
pub record IsBetween (low high n : ℕ) : Type 0 where
  pub low_at : low ≤ n
  pub high_at : n ≤ high

-- a number of bytes that fills whole blocks of 32, at least one and at most so many bytes
pub record IsSize (most n : ℕ) : Type 0 where
  pub between : IsBetween 32 most n
  pub whole : n % 32 ≡ 0

-- a segment of the description
pub record IsSegment (s : SegmentDesc) : Type 0 where
  pub size : IsSize 16384 s.size
  pub first : length s.first ≤ s.size

-- a process, in a description with so many segments
pub record IsProcess (segments : ℕ) (p : ProcessDesc) : Type 0 where
  pub size : IsSize 65536 p.size
  pub image : length p.image ≤ p.size
  pub aligned : p.entry % 4 ≡ 0
  pub inside : p.entry < p.size
  pub few : count_ones p.lines ≤ 4
  pub granted : (s : ℕ) → has_bit p.grants s ≡ true → s < segments

-- how many lines the processes own together
abbrev pub line_count : MachineDesc → ℕ
line_count d = sum_by (λ p. count_ones p.lines) d.processes

-- how many processes own line l
abbrev pub owner_count : MachineDesc → ℕ → ℕ
owner_count d l = count_by (λ p. has_bit p.lines l) d.processes

-- All numbers are within their limits, and the lines, 16 at most, are numbered from 0 on and have one owner each.
pub record IsDescription (d : MachineDesc) : Type 0 where
  pub processors : IsBetween 1 8 d.processors
  pub memories : IsBetween 2 8 d.memories
  pub ios : IsBetween 1 4 d.ios
  pub cache : IsBetween 16 256 d.cache
  pub quantum : IsBetween 1 10000 d.quantum
  pub journal : IsSize 65536 d.journal
  pub segments : length d.segments ≤ 16
  pub each_segment : All IsSegment d.segments
  pub processes : IsBetween 1 16 (length d.processes)
  pub each_process : All (IsProcess (length d.segments)) d.processes
  pub few_lines : line_count d ≤ 16
  pub lines : (l : ℕ) → owner_count d l ≡ (if nat_lt l (line_count d) then 1 else 0)
