-- The machines of the samples, whole.
use Rattle.std.specs.Prelude.{ℕ, List, [], ◌∷◌}
use Rattle.seq_words.specs.declared.description.MachineDesc.{MachineDesc}
use Rattle.seq_words.specs.declared.description.SegmentDesc.{SegmentDesc}
use Rattle.seq_words.specs.declared.description.ProcessDesc.{ProcessDesc}

-- a segment of zeros
abbrev pub segment_of_size : ℕ → SegmentDesc
segment_of_size size = record { size = size; first = [] }

-- a process by its size, its image, its lines and its grants
abbrev pub process_of_size : ℕ → List ℕ → ℕ → ℕ → ProcessDesc
process_of_size size image lines grants = record { size = size; entry = 0; image = image; lines = lines; grants = grants }

-- a machine of one processor and one I/O element, by its memories, its journal's bytes, its segments and its processes
abbrev pub machine_of : ℕ → ℕ → List SegmentDesc → List ProcessDesc → MachineDesc
machine_of memories journal segments processes = record {
  processors = 1;
  memories = memories;
  ios = 1;
  cache = 16;
  quantum = 1000;
  journal = journal;
  segments = segments;
  processes = processes;
}

-- one process with no line
abbrev pub lone_process : MachineDesc
lone_process = machine_of 2 32 [] (process_of_size 32 [] 0 0 ∷ [])

-- two processes, the second with two lines, and two segments, on three memories
abbrev pub three_memories : MachineDesc
three_memories = machine_of 3 96 (segment_of_size 32 ∷ segment_of_size 64 ∷ []) (process_of_size 64 [] 0 0 ∷ process_of_size 32 [] 3 0 ∷ [])

-- one process with no line, and two segments
abbrev pub two_segments : MachineDesc
two_segments = machine_of 2 32 (segment_of_size 32 ∷ segment_of_size 32 ∷ []) (process_of_size 64 [] 0 0 ∷ [])

-- one process with line 0, which is granted segments 0 and 2 of three
abbrev pub one_line : MachineDesc
one_line = machine_of 2 32 (segment_of_size 32 ∷ segment_of_size 32 ∷ segment_of_size 32 ∷ []) (process_of_size 64 [] 1 5 ∷ [])

-- two processes with these sizes and images, the first with line 0, which are granted segments 0, 1 and 2 of four
abbrev pub two_images : ℕ → List ℕ → ℕ → List ℕ → MachineDesc
two_images size image other_size other =
    machine_of 2 32 (segment_of_size 32 ∷ segment_of_size 32 ∷ segment_of_size 32 ∷ segment_of_size 32 ∷ [])
    (process_of_size size image 1 7 ∷ process_of_size other_size other 0 7 ∷ [])
