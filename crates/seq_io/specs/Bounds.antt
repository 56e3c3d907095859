-- Within which bounds an I/O element takes a turn.
use Rattle.std.specs.Prelude.{◌≡◌, ℕ, ◌+◌, ◌*◌, ◌<◌, ◌≤◌, List, length, slice_index, slice_index_or}
use Rattle.seq_words.specs.Description.{IsDescription}
use Rattle.seq_words.specs.declared.description.MachineDesc.{MachineDesc}
use Rattle.seq_layout.specs.Places.{IsPlace}
use Rattle.seq_layout.specs.Shapes.{Shape, shape_of, line_extent}
use Rattle.seq_layout.specs.Copies.{Copies, IsServed}
use Rattle.seq_ruling.specs.Ruling.{HaveRulingWords}
use Rattle.seq_io.specs.Lines.{owner, no_port}
use Rattle.seq_io.specs.declared.element.IoElement.{IoElement}
use Rattle.seq_io.specs.declared.element.PortState.{PortState}

-- how many blocks the journal of line l has
abbrev pub journal_blocks : Shape → ℕ → ℕ
journal_blocks s l = slice_index s.blocks (line_extent s l)

-- Each line has an owner, with a context and an outbox for the line; its three words; and its journal.
pub record IsWired (s : Shape) : Type 0 where
  pub few : length s.owners ≤ 64
  pub owned : (l : ℕ) → l < length s.owners → (owner s l).0.0 < s.processes
  pub index : (l : ℕ) → l < length s.owners → (owner s l).1 < 4
  pub context : (l k : ℕ) → l < length s.owners → k < 8 → IsPlace s.blocks (owner s l).0.0 k
  pub outbox : (l k : ℕ) → l < length s.owners → k < 8 → IsPlace s.blocks (owner s l).0.0 (8 + 8 * (owner s l).1 + k)
  pub counts : (l w : ℕ) → l < length s.owners → w < 3 → IsPlace s.words (line_extent s l) w
  pub journal : (l k : ℕ) → l < length s.owners → k < journal_blocks s l → IsPlace s.blocks (line_extent s l) k

-- the machine of a description is wired so
abbrev pub MachinesAreWired : Type 0
MachinesAreWired = (d : MachineDesc) → IsDescription d → IsWired (shape_of d)

-- Every extent has a copy in service, and the status words of processes are inside the format.
pub record AreReadable (s : Shape) (p : Copies) : Type 0 where
  pub served : (e : ℕ) → IsServed s p e
  pub words : HaveRulingWords s p

-- The port of line l: no more was taken than arrived, and its store has the length of the journal, so that all of it fits there.
pub record IsPort (s : Shape) (l : ℕ) (port : PortState) : Type 0 where
  pub taken : port.taken ≤ port.arrived
  pub arrived : port.arrived ≤ length port.store
  pub store : length port.store ≡ 32 * journal_blocks s l

-- a port for each line
pub record ArePorts (s : Shape) (ports : List PortState) : Type 0 where
  pub number : length ports ≡ length s.owners
  pub each : (l : ℕ) → l < length s.owners → IsPort s l (slice_index_or ports l no_port)

-- the line that an element serves next is one of the lines, where there is one
abbrev pub IsCursor : Shape → IoElement → Type 0
IsCursor s io = 0 < length s.owners → io.cursor < length s.owners
