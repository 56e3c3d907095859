-- What holds of every flat state that a run reaches: it has the shape of the description's machine, and, where the input of each
-- line fits its journal, so do its lines.
use Rattle.std.specs.Prelude.{◌≡◌, ℕ, ◌%◌, ◌<◌, ◌≤◌, List, length, slice_index, Some, Ok}
use Rattle.seq_words.specs.Description.{IsDescription, process_of, segment_of}
use Rattle.seq_words.specs.declared.description.MachineDesc.{MachineDesc}
use Rattle.seq_words.specs.declared.events.Entry.{Entry}
use Rattle.seq_flat.specs.declared.inputs.LineInput.{LineInput}
use Rattle.seq_flat.specs.declared.state.End.{End}
use Rattle.seq_flat.specs.declared.state.End.TheVariants.{Live, Exited, Trapped}
use Rattle.seq_flat.specs.declared.state.ProcessState.{ProcessState}
use Rattle.seq_flat.specs.declared.state.LineState.{LineState}
use Rattle.seq_flat.specs.declared.state.FlatState.{FlatState}
use Rattle.seq_flat.specs.declared.state.Rights.{Rights}
use Rattle.seq_flat.specs.State.{start, process_at, segment_at, line_at, input_at, rights_of}
use Rattle.seq_flat.specs.Step.{step_or_wait}
use Rattle.seq_flat.specs.Run.{run_from}

-- a flat state of the description's machine: as many processes and segments, sixteen lines, and their sizes
pub record IsFlat (d : MachineDesc) (f : FlatState) : Type 0 where
  pub processes : length f.processes ≡ length d.processes
  pub segments : length f.segments ≡ length d.segments
  pub lines : length f.lines ≡ 16
  pub sizes : (p : ℕ) → p < length d.processes → length (process_at f p).bytes ≡ (process_of d p).size
  pub segment_sizes : (t : ℕ) → t < length d.segments → length (segment_at f t).bytes ≡ (segment_of d t).size

-- the cause of a trap is one of the eight
abbrev pub has_cause : End → Type 0
has_cause Live = Unit {0}
has_cause (Exited code) = Unit {0}
has_cause (Trapped cause pc) = cause < 8

-- a process of the flat machine: its 32 registers, of which x0 is 0, its pc, and the cause of its end
pub record IsProcessState (q : ProcessState) : Type 0 where
  pub registers : length q.regs.x ≡ 32
  pub zero : slice_index q.regs.x 0 ≡ 0
  pub aligned : q.regs.pc % 4 ≡ 0
  pub cause : has_cause q.end

-- a line has read no more than a journal holds, and put out no more than a line may
pub record IsLineState (d : MachineDesc) (n : LineState) : Type 0 where
  pub read : n.read ≤ d.journal
  pub output : length n.output ≤ 1048576

-- a state of the shape of the description's machine
pub record HasShape (d : MachineDesc) (f : FlatState) : Type 0 where
  pub flat : IsFlat d f
  pub process : (p : ℕ) → IsProcessState (process_at f p)

pub record IsReached (d : MachineDesc) (f : FlatState) : Type 0 where
  pub flat : IsFlat d f
  pub process : (p : ℕ) → IsProcessState (process_at f p)
  pub line : (l : ℕ) → IsLineState d (line_at f l)

-- the input of each line fits its journal
pub record FitJournals (d : MachineDesc) (inputs : List LineInput) : Type 0 where
  pub line : (l : ℕ) → length (input_at inputs l).bytes ≤ d.journal

-- the shape is there at the start, and every step keeps it, whatever its process may use
abbrev pub StartHasShape : Type 0
StartHasShape = (d : MachineDesc) → IsDescription d → HasShape d (start d)

abbrev pub StepsKeepShape : Type 0
StepsKeepShape = (d : MachineDesc) (rights : List Rights) (inputs : List LineInput) (f g : FlatState) (p : ℕ) → HasShape d f → step_or_wait rights inputs f p ≡ Ok g → HasShape d g

-- what is reached holds at the start, and of what a step, or a run, leads to
abbrev pub StartIsReached : Type 0
StartIsReached = (d : MachineDesc) → IsDescription d → IsReached d (start d)

abbrev pub StepsStayReached : Type 0
StepsStayReached = (d : MachineDesc) (inputs : List LineInput) (f g : FlatState) (p : ℕ) → FitJournals d inputs → IsReached d f → step_or_wait (rights_of d) inputs f p ≡ Ok g → IsReached d g

abbrev pub RunsStayReached : Type 0
RunsStayReached = (d : MachineDesc) (inputs : List LineInput) (history : List Entry) (f g : FlatState) → FitJournals d inputs → IsReached d f → run_from d inputs f history ≡ Some g → IsReached d g
