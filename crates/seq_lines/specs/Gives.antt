-- What it gives that the lines stand.
use Rattle.std.specs.Prelude.{◌≡◌, ℕ, ◌<◌, Bool, true, List, [], length, Some}
use Rattle.seq_words.specs.Description.{IsDescription, process_of}
use Rattle.seq_words.specs.declared.block.Block.{Block}
use Rattle.seq_words.specs.declared.description.MachineDesc.{MachineDesc}
use Rattle.seq_flat.specs.declared.inputs.LineInput.{LineInput}
use Rattle.seq_flat.specs.declared.state.FlatState.{FlatState}
use Rattle.seq_flat.specs.State.{start, rights_of}
use Rattle.seq_flat.specs.Run.{flat_run, IsRight}
use Rattle.seq_flat.specs.Laws.{KeepsOutput}
use Rattle.seq_kernel.specs.Views.{Blocks}
use Rattle.seq_kernel.specs.Bounds.{AreReadable}
use Rattle.seq_kernel.specs.Shown.{HoldsInput, Shows}
use Rattle.seq_process.specs.declared.running.Running.{Running}
use Rattle.seq_runs.specs.Areas.{OthersStay}
use Rattle.seq_flat.specs.Reached.{IsReached, FitJournals}
use Rattle.seq_words.specs.declared.events.Event.{Event}
use Rattle.seq_turns.specs.Machines.{Machine}
use Rattle.seq_turns.specs.Start.{start as machine_start}
use Rattle.seq_stands.specs.Service.{ServiceStands}
use Rattle.seq_lines.specs.Arrivals.{arrived}
use Rattle.seq_lines.specs.Lines.{LinesStand}
use Rattle.seq_lines.specs.Known.{CommitsOutput}
use Rattle.seq_words.specs.Masks.{has_bit}

-- at the start
abbrev pub StartStands : Type 0
StartStands = (d : MachineDesc) (image : ℕ → ℕ → Block) → IsDescription d → LinesStand d (arrived d []) (start d) (machine_start d image)

-- the first copies of a process's lines hold its input, and memories can be read
abbrev pub ProcessesHoldInput : Type 0
ProcessesHoldInput =
    (d : MachineDesc) (inputs : List LineInput) (f : FlatState) (m : Machine) (q : ℕ) →
    IsDescription d → ServiceStands d m → LinesStand d inputs f m → q < length d.processes → (l : ℕ) → has_bit (process_of d q).lines l ≡ true → HoldsInput d m.copies inputs l

abbrev pub MemoriesAreReadable : Type 0
MemoriesAreReadable =
    (d : MachineDesc) (inputs : List LineInput) (f : FlatState) (m : Machine) →
    IsDescription d → IsReached d f → ServiceStands d m → LinesStand d inputs f m → AreReadable d m.copies

-- what has arrived fits the journals
abbrev pub ArrivedFits : Type 0
ArrivedFits = (d : MachineDesc) (events : List Event) (f : FlatState) (m : Machine) → LinesStand d (arrived d events) f m → FitJournals d (arrived d events)

-- what was sent is right, with what was committed and what has arrived
abbrev pub SentIsRight : Type 0
SentIsRight =
    (d : MachineDesc) (inputs : List LineInput) (f : FlatState) (m : Machine) →
    flat_run d inputs m.history ≡ Some f → LinesStand d inputs f m → IsRight d inputs m.history m.sent

-- A process that a processor shows, and that went from f to g, has put out what it had written.
abbrev pub ShownIsCommitted : Type 0
ShownIsCommitted =
    (d : MachineDesc) (f g : FlatState) (o : Blocks) (area : ℕ → Bool) (r : Running) →
    r.pid.0 < length d.processes → Shows d g o r → OthersStay (rights_of d) area r.pid.0 f g → KeepsOutput f g → CommitsOutput d f g r
