-- When a machine is settled, and what it means then.
use Rattle.std.specs.Prelude.{◌≡◌, ℕ, ◌+◌, ◌<◌, true, false, List, length, Some}
use Rattle.seq_words.specs.Description.{IsDescription, line_count}
use Rattle.seq_words.specs.declared.description.MachineDesc.{MachineDesc}
use Rattle.seq_words.specs.declared.events.Entry.{Entry}
use Rattle.seq_flat.specs.declared.inputs.LineInput.{LineInput}
use Rattle.seq_flat.specs.declared.state.FlatState.{FlatState}
use Rattle.seq_flat.specs.Step.{IsQuiet}
use Rattle.seq_flat.specs.Run.{flat_run, output}
use Rattle.seq_layout.specs.Shapes.{shape_of}
use Rattle.seq_layout.specs.Copies.{Copies, first_block}
use Rattle.seq_status.specs.declared.status.Status.{Status}
use Rattle.seq_status.specs.declared.status.Status.TheVariants.{Idle, Run, Pass1, Pass2, Back, Forward}
use Rattle.seq_runs.specs.Areas.{holds}
use Rattle.seq_image.specs.Images.{image}
use Rattle.seq_flat.specs.Reached.{IsReached}
use Rattle.seq_turns.specs.declared.hand.Hand.{Hand}
use Rattle.seq_turns.specs.declared.hand.Hand.TheVariants as hand
use Rattle.seq_turns.specs.Machines.{Machine}
use Rattle.seq_turns.specs.Reading.{ruling, lives}
use Rattle.seq_turns.specs.Duties.{accepted, written, is_steady}
use Rattle.seq_lines.specs.Lines.{LinesStand}
use Rattle.seq_lines.specs.Committed.{state_in, input_counts}

-- how many steps of a hand are uncommitted; none, where it runs no process
abbrev pub steps_of : Hand → ℕ
steps_of (hand.Running r) = r.steps
steps_of (hand.Acquiring r t c) = r.steps
steps_of (hand.Flushing r cause mask f) = r.steps
steps_of (hand.Unlocking r cause mask l) = r.steps
steps_of hand.Down = 0
steps_of hand.Seek = 0
steps_of (hand.Claiming q c) = 0
steps_of (hand.Leaving q l) = 0
steps_of (hand.Recovering r) = 0

-- nobody flushes or recovers the process, and who runs it lives and has no uncommitted step
abbrev pub IsCalm : Machine → Status → Type 0
IsCalm m Idle = Unit {0}
IsCalm m (Run h) = (lives m.incarnation h ≡ true) × (steps_of (m.hand h.pe.0) ≡ 0)
IsCalm m (Pass1 h) = ⊥
IsCalm m (Pass2 h) = ⊥
IsCalm m (Back h) = ⊥
IsCalm m (Forward h) = ⊥

-- Every process is calm, none can take a step from the committed state, and each line that isn't hung up has accepted all that
-- is written.
pub record IsSettled (d : MachineDesc) (m : Machine) : Type 0 where
  pub calm : (q : ℕ) → q < length d.processes → IsCalm m (ruling d m.copies q)
  pub quiet : IsQuiet d (input_counts d m) (state_in d (first_block (shape_of d) m.copies))
  pub sent : (l : ℕ) → l < line_count d → m.hung l ≡ false → accepted m l ≡ written d m.copies l

-- the first copies of the blocks of processes and segments hold the image of f
abbrev pub FirstCopiesAre : MachineDesc → Copies → FlatState → (ℕ → ℕ) → Type 0
FirstCopiesAre d p f commits = (e n : ℕ) → e < length d.processes + length d.segments → first_block (shape_of d) p e n ≡ image d f commits e n

-- who holds a segment is a process of the description; so it is after every run
abbrev pub HoldersAreThere : MachineDesc → FlatState → Type 0
HoldersAreThere d f = (q t : ℕ) → holds f q t ≡ true → q < length d.processes

abbrev pub RunsHaveHolders : Type 0
RunsHaveHolders = (d : MachineDesc) (inputs : List LineInput) (history : List Entry) (f : FlatState) → flat_run d inputs history ≡ Some f → HoldersAreThere d f

-- then nothing is left to do: no process can take a step with what has arrived, and all output is sent
pub record IsDone (d : MachineDesc) (inputs : List LineInput) (f : FlatState) (m : Machine) : Type 0 where
  pub quiet : IsQuiet d inputs f
  pub sent : (l : ℕ) → l < line_count d → m.hung l ≡ false → m.sent l ≡ output f l

abbrev pub SettledIsDone : Type 0
SettledIsDone =
    (d : MachineDesc) (inputs : List LineInput) (f : FlatState) (commits : ℕ → ℕ) (m : Machine) →
    IsDescription d → IsReached d f → HoldersAreThere d f → FirstCopiesAre d m.copies f commits → LinesStand d inputs f m →
    IsSettled d m → IsDone d inputs f m

-- a calm process is steady, so that its first copies hold what is committed
abbrev pub CalmIsSteady : Type 0
CalmIsSteady = (m : Machine) (status : Status) → IsCalm m status → is_steady status ≡ true
