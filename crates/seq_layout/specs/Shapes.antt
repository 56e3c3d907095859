-- The extents of a machine: its processes first, then its segments, then its lines.
use Rattle.std.specs.Prelude.{◌≡◌, ℕ, suc, ◌+◌, ◌*◌, ◌/◌, ◌%◌, ◌^◌, ◌<◌, true, if◌then◌else◌, List, [], ◌∷◌, ◌++◌, map, replicate, length, count_ones, slice_index_or}
use Rattle.std.specs.List.{range_with_len}
use Rattle.seq_words.specs.Masks.{has_bit}
use Rattle.seq_words.specs.Description.{IsDescription, line_count}
use Rattle.seq_words.specs.declared.names.Pid.{Pid}
use Rattle.seq_words.specs.declared.description.MachineDesc.{MachineDesc}
use Rattle.seq_words.specs.declared.description.ProcessDesc.{ProcessDesc}

-- What the places of a machine depend on.
pub record Shape : Type 0 where
  pub memories : ℕ
  pub processes : ℕ
  pub segments : ℕ
  -- how many blocks, and how many words, each extent has
  pub blocks : List ℕ
  pub words : List ℕ
  -- of each line its owner, and the line's number among the owner's lines
  pub owners : List (Pid × ℕ)

-- the extent of a process, a segment, a line
abbrev pub process_extent : ℕ → ℕ
process_extent p = p

abbrev pub segment_extent : Shape → ℕ → ℕ
segment_extent s segment = s.processes + segment

abbrev pub line_extent : Shape → ℕ → ℕ
line_extent s line = s.processes + s.segments + line

-- a process has eight blocks of context, eight of outbox for each line that it owns, and its private bytes
abbrev pub process_blocks : ProcessDesc → ℕ
process_blocks p = 8 + 8 * count_ones p.lines + p.size / 32

abbrev pub blocks_of : MachineDesc → List ℕ
blocks_of d = map process_blocks d.processes ++ map (λ s. s.size / 32) d.segments ++ replicate (line_count d) (d.journal / 32)

-- a process has its status word, a segment its lock word, a line its journal count, its closed word and its sent count
abbrev pub words_of : MachineDesc → List ℕ
words_of d = replicate (length d.processes) 1 ++ replicate (length d.segments) 1 ++ replicate (line_count d) 3

-- the number of a line among the lines of a mask, in ascending order
abbrev pub index_of : ℕ → ℕ → ℕ
index_of lines l = count_ones (lines % 2 ^ l)

-- the first of the processes from number p on that has line l, and the line's number among its lines
unfoldable pub owner_from : ℕ → List ProcessDesc → ℕ → Pid × ℕ
owner_from p [] l = (record { 0 = 0 }, 0)
owner_from p (q ∷ qs) l = if has_bit q.lines l then (record { 0 = p }, index_of q.lines l) else owner_from (suc p) qs l

abbrev pub owners_of : MachineDesc → List (Pid × ℕ)
owners_of d = map (owner_from 0 d.processes) (range_with_len 0 (line_count d))

-- the shape of a description's machine
abbrev pub shape_of : MachineDesc → Shape
shape_of d = record {
  memories = d.memories;
  processes = length d.processes;
  segments = length d.segments;
  blocks = blocks_of d;
  words = words_of d;
  owners = owners_of d;
}

-- a process of the description owns line l, and the line has this number among its lines
pub record Owns (d : MachineDesc) (l p index : ℕ) : Type 0 where
  pub process : p < length d.processes
  pub owned : (none : ProcessDesc) → has_bit (slice_index_or d.processes p none).lines l ≡ true
  pub number : (none : ProcessDesc) → index ≡ index_of (slice_index_or d.processes p none).lines l
  pub few : index < 4

-- no other process owns the line, and it has one number among the owner's lines
abbrev pub OwnersAreAlone : Type 0
OwnersAreAlone = (d : MachineDesc) (l p index p' index' : ℕ) → IsDescription d → Owns d l p index → Owns d l p' index' → (p ≡ p') × (index ≡ index')
