-- The bounds of lines, of their ports and of the elements that serve them.
use Rattle.std.specs.Prelude.{◌≡◌, ◌⊎◌, ℕ, zero, suc, ◌<◌, ◌≤◌, length, Bool, true}
use Rattle.seq_words.specs.Description.{IsDescription, line_count}
use Rattle.seq_words.specs.declared.block.Block.{Block}
use Rattle.seq_words.specs.declared.description.MachineDesc.{MachineDesc}
use Rattle.seq_layout.specs.Shapes.{shape_of, line_extent}
use Rattle.seq_kernel.specs.Bounds.{AreReadable}
use Rattle.seq_io.specs.declared.element.PortState.{PortState}
use Rattle.seq_words.specs.declared.events.Event.{Event}
use Rattle.seq_words.specs.declared.events.Event.TheVariants as event
use Rattle.seq_turns.specs.Machines.{Machine}
use Rattle.seq_turns.specs.Duties.{written, has_steady_owner}
use Rattle.seq_turns.specs.Start.{start}
use Rattle.seq_turns.specs.Allowed.{Allowed}
use Rattle.seq_turns.specs.Events.{happens}
use Rattle.seq_stands.specs.Standing.{Stands}
use Rattle.seq_stands.specs.FitHands.{HandsFit}

-- word n of a line: its journal count, whether it is closed, its sent count
abbrev pub LineWord : MachineDesc → ℕ → ℕ → Type 0
LineWord d zero w = w ≤ d.journal
LineWord d (suc zero) w = w ≤ 1
LineWord d (suc (suc zero)) w = w ≤ 1048576
LineWord d (suc (suc (suc n))) w = Unit {0}

pub record PortFits (d : MachineDesc) (port : PortState) : Type 0 where
  pub taken : port.taken ≤ port.arrived
  pub arrived : port.arrived ≤ d.journal
  pub store : length port.store ≡ d.journal

pub record LinesFit (d : MachineDesc) (m : Machine) : Type 0 where
  pub words : (l n : ℕ) (c : Bool) → LineWord d n (m.copies.word (line_extent (shape_of d) l) n c)
  pub ports : (l : ℕ) → PortFits d (m.port l)
  pub sent : (l : ℕ) → length (m.sent l) ≤ 1048576
  -- an element serves a line, or there is none
  pub cursors : (i : ℕ) → ((m.io i).cursor ≡ 0) ⊎ ((m.io i).cursor < line_count d)

-- no context of a steady process says that more bytes were written than may be
pub record WritesFit (d : MachineDesc) (m : Machine) : Type 0 where
  pub writes : (l : ℕ) → l < line_count d → has_steady_owner d m l ≡ true → written d m.copies l ≤ 1048576

abbrev pub StartLinesFit : Type 0
StartLinesFit = (d : MachineDesc) (image : ℕ → ℕ → Block) → LinesFit d (start d image)

-- what an event takes from the blocks: only an I/O element's turn takes anything
abbrev pub LinesTake : MachineDesc → Machine → Event → Type 0
LinesTake d m (event.Processor p) = Unit {0}
LinesTake d m (event.Io i) = WritesFit d m
LinesTake d m (event.Input l byte) = Unit {0}
LinesTake d m (event.Close l) = Unit {0}
LinesTake d m (event.Fail e) = Unit {0}
LinesTake d m (event.Repair e) = Unit {0}
LinesTake d m (event.Upset p half reg mask) = Unit {0}
LinesTake d m (event.Hangup l) = Unit {0}

-- every event keeps them
abbrev pub EventsKeepLinesFit : Type 0
EventsKeepLinesFit = (d : MachineDesc) (m : Machine) (e : Event) → IsDescription d → Allowed d m e → Stands d m → HandsFit d m → LinesTake d m e → LinesFit d m → LinesFit d (happens d m e)

-- the memories may be read then by a process's step
abbrev pub LinesAreReadable : Type 0
LinesAreReadable = (d : MachineDesc) (m : Machine) → IsDescription d → Stands d m → LinesFit d m → AreReadable d m.copies
