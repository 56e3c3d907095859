-- The flat state as plain lists, and its start.
use Rattle.std.specs.Prelude.{ℕ, ◌-◌, List, [], ◌++◌, None, map, replicate, length, slice_index_or, slice_set, false}
use Rattle.seq_words.specs.declared.regs.Regs.{Regs}
use Rattle.seq_words.specs.declared.description.MachineDesc.{MachineDesc}
use Rattle.seq_words.specs.declared.description.SegmentDesc.{SegmentDesc}
use Rattle.seq_words.specs.declared.description.ProcessDesc.{ProcessDesc}
use Rattle.seq_flat.specs.declared.inputs.LineInput.{LineInput}
use Rattle.seq_flat.specs.declared.state.End.TheVariants.{Live}
use Rattle.seq_flat.specs.declared.state.ProcessState.{ProcessState}
use Rattle.seq_flat.specs.declared.state.SegmentState.{SegmentState}
use Rattle.seq_flat.specs.declared.state.LineState.{LineState}
use Rattle.seq_flat.specs.declared.state.FlatState.{FlatState}
use Rattle.seq_flat.specs.declared.state.Rights.{Rights}

-- what stands where a list has no such process, segment, line, right or input
unfoldable pub no_process : ProcessState
no_process = record { regs = record { x = replicate 32 0; pc = 0 }; end = Live; bytes = [] }

abbrev pub no_segment : SegmentState
no_segment = record { bytes = []; owner = None }

abbrev pub no_line : LineState
no_line = record { read = 0; output = [] }

abbrev pub no_rights : Rights
no_rights = record { lines = 0; grants = 0 }

abbrev pub no_input : LineInput
no_input = record { bytes = []; closed = false }

-- process p, segment s, line l, the rights of process p, the input of line l
abbrev pub process_at : FlatState → ℕ → ProcessState
process_at f p = slice_index_or f.processes p no_process

abbrev pub segment_at : FlatState → ℕ → SegmentState
segment_at f s = slice_index_or f.segments s no_segment

abbrev pub line_at : FlatState → ℕ → LineState
line_at f l = slice_index_or f.lines l no_line

abbrev pub rights_at : List Rights → ℕ → Rights
rights_at rights p = slice_index_or rights p no_rights

abbrev pub input_at : List LineInput → ℕ → LineInput
input_at inputs l = slice_index_or inputs l no_input

-- the state with another process p, segment s, line l
abbrev pub with_process : FlatState → ℕ → ProcessState → FlatState
with_process f p q = record f { processes = slice_set f.processes p q }

abbrev pub with_segment : FlatState → ℕ → SegmentState → FlatState
with_segment f s g = record f { segments = slice_set f.segments s g }

abbrev pub with_line : FlatState → ℕ → LineState → FlatState
with_line f l n = record f { lines = slice_set f.lines l n }

-- what a step needs of the description
abbrev pub rights_of : MachineDesc → List Rights
rights_of d = map (λ p. record { lines = p.lines; grants = p.grants }) d.processes

-- these bytes first, and zeros up to a size
abbrev pub filled : List ℕ → ℕ → List ℕ
filled bytes size = bytes ++ replicate (size - length bytes) 0

-- a process starts at its entry, with its private size in x2 and zeros in every other register
abbrev pub start_regs : ℕ → ℕ → Regs
start_regs size pc = record { x = slice_set (replicate 32 0) 2 size; pc = pc }

abbrev pub start_process : ProcessDesc → ProcessState
start_process p = record { regs = start_regs p.size p.entry; end = Live; bytes = filled p.image p.size }

abbrev pub start_segment : SegmentDesc → SegmentState
start_segment s = record { bytes = filled s.first s.size; owner = None }

-- The start: nothing is held, read or written. Sixteen lines are kept, whether or not they are owned.
abbrev pub start : MachineDesc → FlatState
start d = record {
  processes = map start_process d.processes;
  segments = map start_segment d.segments;
  lines = replicate 16 no_line;
}
