-- The files of a machine's parts: the images of its processes in their order, then the files of its segments in theirs.
use Rattle.std.specs.Prelude.{◌≡◌, ◌≤◌, ◌<◌, ℕ, ◌+◌, ◌-◌, All, count_ones, Bool, true, false, if◌then◌else◌, nat_lt, Option, Some, None, List, [], ◌∷◌, ◌++◌, length, slice_set}
use Rattle.seq_words.specs.declared.description.MachineDesc.{MachineDesc}
use Rattle.seq_words.specs.Description.{IsBetween, IsSize, IsSegment, IsProcess, process_of, segment_of, line_count, owner_count}
use Rattle.seq_words.specs.Masks.{has_bit}
use Rattle.seq_shelf.specs.Told.{Map}
use Rattle.seq_loader.specs.declared.image.Image.{Image}
use Rattle.seq_loader.specs.Image.{Spells}
use Rattle.seq_loader.specs.Faults.{first_fault}
use Rattle.seq_manifest.specs.declared.draft.Draft.{Draft}
use Rattle.seq_cli.specs.Files.{Opening, OpensFile}

-- The names of the files of a draft's parts. An empty name stands for no file, as of a segment without one.
abbrev pub names_of : Draft → List (List ℕ)
names_of draft = draft.images ++ draft.firsts

-- part n is a process, or else a segment
abbrev pub is_process : MachineDesc → ℕ → Bool
is_process d n = nat_lt n (length d.processes)

abbrev pub segment_at : MachineDesc → ℕ → ℕ
segment_at d n = n - length d.processes

-- process p of the description runs this image
abbrev pub with_image : MachineDesc → ℕ → Image → MachineDesc
with_image d p i = record d { processes = slice_set d.processes p (record (process_of d p) { size = i.size; entry = i.entry; image = i.bytes }) }

-- segment s of the description starts with these bytes
abbrev pub with_first : MachineDesc → ℕ → List ℕ → MachineDesc
with_first d s bytes = record d { segments = slice_set d.segments s (record (segment_of d s) { first = bytes }) }

-- rule 27: a segment's file is longer than the segment, at the byte that is its size
abbrev pub segment_fault : ℕ → List ℕ → Option (ℕ × ℕ)
segment_fault size text = if nat_lt size (length text) then Some (size, 27) else None

-- the first rule that the file of part n violates
abbrev pub part_fault : MachineDesc → ℕ → List ℕ → Option (ℕ × ℕ)
part_fault d n text = if is_process d n then first_fault text else segment_fault (segment_of d (segment_at d n)).size text

-- the description with what the file of part n says
abbrev pub CompletesBy : Bool → MachineDesc → ℕ → List ℕ → MachineDesc → Type 0
CompletesBy true d n text e = (i : Image) × Spells text i × (e ≡ with_image d n i)
CompletesBy false d n text e = e ≡ with_first d (segment_at d n) text

abbrev pub Completes : MachineDesc → ℕ → List ℕ → MachineDesc → Type 0
Completes d n text e = CompletesBy (is_process d n) d n text e

-- While parts are loaded: those before part n are a machine's, and what else the description says is that of a machine.
pub record IsPartly (n : ℕ) (d : MachineDesc) : Type 0 where
  pub processors : IsBetween 1 8 d.processors
  pub memories : IsBetween 2 8 d.memories
  pub ios : IsBetween 1 4 d.ios
  pub cache : IsBetween 16 256 d.cache
  pub quantum : IsBetween 1 10000 d.quantum
  pub journal : IsSize 65536 d.journal
  pub segments : length d.segments ≤ 16
  pub each_segment : All IsSegment d.segments
  pub processes : IsBetween 1 16 (length d.processes)
  pub each_process : (p : ℕ) → p < length d.processes → p < n → IsProcess (length d.segments) (process_of d p)
  pub few : (p : ℕ) → p < length d.processes → count_ones (process_of d p).lines ≤ 4
  pub granted : (p : ℕ) → p < length d.processes → (s : ℕ) → has_bit (process_of d p).grants s ≡ true → s < length d.segments
  pub few_lines : line_count d ≤ 16
  pub lines : (l : ℕ) → owner_count d l ≡ (if nat_lt l (line_count d) then 1 else 0)

-- What the parts from part n on ask for, by the names of their files.
abbrev pub OpensParts : Map → Option ℕ → ℕ → List (List ℕ) → List (List ℕ) → MachineDesc → (List (List ℕ) → MachineDesc → Opening → Type 0) → Opening → Type 0
OpensParts map failed n [] files d next o = next files d o
OpensParts map failed n ([] ∷ names) files d next o = OpensParts map failed (n + 1) names files d next o
OpensParts map failed n ((b ∷ bytes) ∷ names) files d next o =
    OpensFile failed files (part_fault d n) (Completes d n) (λ files e o. OpensParts map failed (n + 1) names files e next o) (map (b ∷ bytes)) o
