-- Which text describes which draft of a machine.
use Rattle.std.specs.Prelude.{◌≡◌, ◌≤◌, ◌<◌, ◌^◌, ℕ, true, not, ◌⊎◌, nat_lt, if◌then◌else◌, map, List, [], ◌∷◌, ◌++◌, length, Some, All, count_ones}
use Rattle.std.specs.List.{filter, zip, range_with_len}
use Rattle.seq_words.specs.declared.description.SegmentDesc.{SegmentDesc}
use Rattle.seq_words.specs.declared.description.ProcessDesc.{ProcessDesc}
use Rattle.seq_words.specs.Description.{IsBetween, IsSize, owner_count, line_count}
use Rattle.seq_words.specs.Masks.{has_bit}
use Rattle.seq_text.specs.Lines.{lines_of}
use Rattle.seq_text.specs.Words.{words_of}
use Rattle.seq_manifest.specs.declared.draft.Draft.{Draft}
use Rattle.seq_manifest.specs.declared.heading.Heading.{Heading}
use Rattle.seq_manifest.specs.declared.heading.Heading.TheVariants.{Version, Processors, Memories, Ios, Cache, Quantum, Journal}
use Rattle.seq_manifest.specs.declared.parts.Parts.{Parts}
use Rattle.seq_manifest.specs.Statements.{Statement, heading, segment, process, is_passed_over, is_file, said}

-- the seven first lines, in their order
abbrev pub headings : List Heading
headings = Version ∷ Processors ∷ Memories ∷ Ios ∷ Cache ∷ Quantum ∷ Journal ∷ []

-- the numbers of a mask's bits, in ascending order
unfoldable pub numbers_in : ℕ → List ℕ
numbers_in mask = filter (λ n. has_bit mask n) (range_with_len 0 16)

abbrev pub segment_of : SegmentDesc × List ℕ → Statement
segment_of part = segment part.0.size part.1

abbrev pub process_of : ProcessDesc × List ℕ → Statement
process_of part = process part.1 (numbers_in part.0.lines) (numbers_in part.0.grants)

-- What the lines of a description say: the first lines with these numbers, then the segments with the names of their
-- files, then the processes with the names of theirs.
unfoldable pub said_by : Parts → List Statement
said_by parts =
    map (λ part. heading part.0 part.1) (zip headings parts.numbers)
    ++ map segment_of (zip parts.segments parts.firsts)
    ++ map process_of (zip parts.processes parts.images)

abbrev pub parts_of : Draft → Parts
parts_of d = record {
  numbers = 1 ∷ d.desc.processors ∷ d.desc.memories ∷ d.desc.ios ∷ d.desc.cache ∷ d.desc.quantum ∷ d.desc.journal ∷ [];
  segments = d.desc.segments;
  firsts = d.firsts;
  processes = d.desc.processes;
  images = d.images;
}

-- a segment of a draft, whose file isn't read yet
pub record IsSegmentDraft (s : SegmentDesc) : Type 0 where
  pub size : IsSize 16384 s.size
  pub first : s.first ≡ []

-- a process of a draft with so many segments, whose image isn't read yet
pub record IsProcessDraft (segments : ℕ) (p : ProcessDesc) : Type 0 where
  pub size : p.size ≡ 0
  pub entry : p.entry ≡ 0
  pub image : p.image ≡ []
  pub line_mask : p.lines < 2 ^ 16
  pub grant_mask : p.grants < 2 ^ 16
  pub few : count_ones p.lines ≤ 4
  pub granted : (s : ℕ) → has_bit p.grants s ≡ true → s < segments

-- a draft: all numbers are within their limits, and the lines, 16 at most, are numbered from 0 on and have one owner each
pub record IsDraft (d : Draft) : Type 0 where
  pub processors : IsBetween 1 8 d.desc.processors
  pub memories : IsBetween 2 8 d.desc.memories
  pub ios : IsBetween 1 4 d.desc.ios
  pub cache : IsBetween 16 256 d.desc.cache
  pub quantum : IsBetween 1 10000 d.desc.quantum
  pub journal : IsSize 65536 d.desc.journal
  pub segments : length d.desc.segments ≤ 16
  pub each_segment : All IsSegmentDraft d.desc.segments
  pub firsts : length d.firsts ≡ length d.desc.segments
  pub each_first : All (λ name. (name ≡ []) ⊎ (is_file name ≡ true)) d.firsts
  pub processes : IsBetween 1 16 (length d.desc.processes)
  pub each_process : All (IsProcessDraft (length d.desc.segments)) d.desc.processes
  pub images : length d.images ≡ length d.desc.processes
  pub each_image : All (λ name. is_file name ≡ true) d.images
  pub few_lines : line_count d.desc ≤ 16
  pub lines : (l : ℕ) → owner_count d.desc l ≡ (if nat_lt l (line_count d.desc) then 1 else 0)

-- the words of each line that isn't passed over
abbrev pub content : List (List ℕ) → List (List (List ℕ))
content lines = filter (λ words. not (is_passed_over words)) (map words_of lines)

-- the grammar: the lines that aren't passed over say what the draft consists of, and nothing else
pub record Describes (text : List ℕ) (d : Draft) : Type 0 where
  pub lines : map said (content (lines_of text)) ≡ map (λ s. Some s) (said_by (parts_of d))
  pub draft : IsDraft d
