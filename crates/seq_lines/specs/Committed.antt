-- The committed state as the first copies of the memories hold it, and the input as the ports know it.
use Rattle.std.specs.Prelude.{ℕ, ◌+◌, [], List, Option, map, replicate, length, slice_index, option_map}
use Rattle.std.specs.List.{range_with_len}
use Rattle.seq_words.specs.Masks.{has_bit}
use Rattle.seq_words.specs.Description.{line_count, process_of, segment_of}
use Rattle.seq_words.specs.declared.names.Pid.{Pid}
use Rattle.seq_words.specs.declared.description.MachineDesc.{MachineDesc}
use Rattle.seq_flat.specs.declared.inputs.LineInput.{LineInput}
use Rattle.seq_flat.specs.declared.state.ProcessState.{ProcessState}
use Rattle.seq_flat.specs.declared.state.SegmentState.{SegmentState}
use Rattle.seq_flat.specs.declared.state.LineState.{LineState}
use Rattle.seq_flat.specs.declared.state.FlatState.{FlatState}
use Rattle.seq_layout.specs.declared.context.Context.{Context}
use Rattle.seq_process.specs.Contexts.{end_of}
use Rattle.seq_segments.specs.Map.{before_private}
use Rattle.seq_kernel.specs.Views.{Blocks, byte_in}
use Rattle.seq_image.specs.Starting.{context_read}
use Rattle.seq_turns.specs.Functions.{lowest}
use Rattle.seq_turns.specs.Machines.{Machine}
use Rattle.seq_turns.specs.Reading.{context_in}
use Rattle.seq_turns.specs.Duties.{owner}

-- so many bytes of an extent from one of them on
unfoldable pub bytes_in : Blocks → ℕ → ℕ → ℕ → List ℕ
bytes_in o e from size = map (λ k. byte_in o e (from + k)) (range_with_len 0 size)

-- the context of a process in blocks
unfoldable pub context_at : Blocks → ℕ → Context
context_at o q = context_in (context_read o q)

unfoldable pub process_in : MachineDesc → Blocks → ℕ → ProcessState
process_in d o q = record {
  regs = (context_at o q).regs;
  end = end_of (context_at o q);
  bytes = bytes_in o q (before_private (process_of d q)) (process_of d q).size;
}

abbrev pub pid_of : ℕ → Pid
pid_of q = record { 0 = q }

-- a process owns the segments that its context holds
abbrev pub owner_in : MachineDesc → Blocks → ℕ → Option Pid
owner_in d o t = option_map pid_of (lowest (λ q. has_bit (context_at o q).held t) (length d.processes))

unfoldable pub segment_in : MachineDesc → Blocks → ℕ → SegmentState
segment_in d o t = record { bytes = bytes_in o (length d.processes + t) 0 (segment_of d t).size; owner = owner_in d o t }

-- what has been read of a line; its output is left out
unfoldable pub line_in : MachineDesc → Blocks → ℕ → LineState
line_in d o l = record { read = slice_index (context_at o (owner d l).0.0).reads (owner d l).1; output = [] }

abbrev pub state_in : MachineDesc → Blocks → FlatState
state_in d o = record {
  processes = map (process_in d o) (range_with_len 0 (length d.processes));
  segments = map (segment_in d o) (range_with_len 0 (length d.segments));
  lines = map (line_in d o) (range_with_len 0 16);
}

-- how many bytes have arrived on each line, and whether it is closed; the bytes themselves are left out
abbrev pub input_counts : MachineDesc → Machine → List LineInput
input_counts d m = map (λ l. record { bytes = replicate (m.port l).arrived 0; closed = (m.port l).closed }) (range_with_len 0 (line_count d))
