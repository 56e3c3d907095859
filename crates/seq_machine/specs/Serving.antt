-- A turn of an I/O element, over the lines that are outside the machine.
use Rattle.std.specs.Prelude.{◌≡◌, ℕ, ◌<◌, false, if◌then◌else◌, IsSome, List, []}
use Rattle.seq_words.specs.Description.{line_count}
use Rattle.seq_words.specs.declared.description.MachineDesc.{MachineDesc}
use Rattle.seq_words.specs.declared.names.LineNo.{LineNo}
use Rattle.seq_shelf.specs.declared.line.LineError.{LineError}
use Rattle.seq_shelf.specs.declared.line.LineError.TheVariants.{Fault, NoMemory}
use Rattle.seq_shelf.specs.Causes.{Rose}
use Rattle.seq_shelf.specs.Told.{LineView}
use Rattle.seq_shelf.specs.Rows.{line_at, on_line}
use Rattle.seq_layout.specs.Shapes.{shape_of}
use Rattle.seq_io.specs.Bounds.{AreReadable, IsPort, IsCursor}
use Rattle.seq_io.specs.Turns.{bytes_of}
use Rattle.seq_turns.specs.Machines.{Machine}
use Rattle.seq_turns.specs.Duties.{duty, rests}
use Rattle.seq_machine.specs.declared.hardware.Stop.{Stop}
use Rattle.seq_machine.specs.declared.hardware.Stop.TheVariants as stop

-- What I/O element i reads is there and within its bounds.
pub record MayServe (d : MachineDesc) (m : Machine) (i : ℕ) : Type 0 where
  pub readable : AreReadable (shape_of d) m.copies
  pub cursor : IsCursor (shape_of d) (m.io i)
  pub ports : (l : ℕ) → l < line_count d → IsPort (shape_of d) l (m.port l)

-- the bytes that its turn sends on each line
abbrev pub sent_by : MachineDesc → Machine → ℕ → ℕ → List ℕ
sent_by d m i l = if rests d m i then [] else on_line (m.io i).cursor (bytes_of (duty d m (m.io i).cursor).sent) l

-- it is to send a byte on the line under its cursor
abbrev pub Sends : MachineDesc → Machine → ℕ → Type 0
Sends d m i = (rests d m i ≡ false) × IsSome (duty d m (m.io i).cursor).sent

-- a run stops for this reason at that line: a count of the line rose
abbrev pub StopsAt : ℕ → List LineView → List LineView → Stop → Type 0
StopsAt at old new (stop.Line l) = (l.0 ≡ at) × Rose (line_at old at).faults (line_at new at).faults
StopsAt at old new stop.NoMemory = Rose (line_at old at).refusals (line_at new at).refusals
StopsAt at old new (stop.Check element blocker) = ⊥
StopsAt at old new stop.Chronicle = ⊥

-- how a run stops at an error of line l
abbrev pub stopped_at : LineNo → LineError → Stop
stopped_at l Fault = stop.Line l
stopped_at l NoMemory = stop.NoMemory
