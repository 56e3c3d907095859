-- What the turns of I/O elements keep.
use Rattle.std.specs.Prelude.{◌≡◌, ℕ, ◌+◌, ◌<◌, ◌≤◌, List, length, slice_index}
use Rattle.seq_words.specs.Description.{IsDescription, line_count}
use Rattle.seq_words.specs.declared.description.MachineDesc.{MachineDesc}
use Rattle.seq_flat.specs.declared.inputs.LineInput.{LineInput}
use Rattle.seq_flat.specs.declared.state.FlatState.{FlatState}
use Rattle.seq_flat.specs.Run.{output}
use Rattle.seq_layout.specs.Copies.{Copies}
use Rattle.seq_flat.specs.Reached.{IsReached}
use Rattle.seq_turns.specs.Machines.{Machine}
use Rattle.seq_turns.specs.Duties.{owner, written, outbox_at}
use Rattle.seq_turns.specs.Events.{after_io}
use Rattle.seq_lines.specs.Lines.{LinesStand}
use Rattle.seq_lines.specs.Known.{FirstHold, SteadyHold}

-- What an element reads of a line in the first copies of its owner: how long the output is, and each byte of it that isn't 256
-- bytes back yet.
pub record ReadsOutput (d : MachineDesc) (p : Copies) (f : FlatState) (l : ℕ) : Type 0 where
  pub written : written d p l ≡ length (output f l)
  pub byte : (i : ℕ) → i < length (output f l) → length (output f l) ≤ i + 256 → outbox_at d p l i ≡ slice_index (output f l) i

abbrev pub FirstCopiesAreRead : Type 0
FirstCopiesAreRead =
    (d : MachineDesc) (p : Copies) (f : FlatState) (commits : ℕ → ℕ) (l : ℕ) →
    IsDescription d → IsReached d f → l < line_count d → FirstHold d p f commits (owner d l).0.0 → ReadsOutput d p f l

-- Every duty, at either copy and with any memory away, keeps what stands of the lines.
abbrev pub DutiesKeepLines : Type 0
DutiesKeepLines =
    (d : MachineDesc) (inputs : List LineInput) (f : FlatState) (commits : ℕ → ℕ) (m : Machine) (i : ℕ) →
    IsDescription d → IsReached d f → SteadyHold d m f commits → LinesStand d inputs f m → LinesStand d inputs f (after_io d m i)
