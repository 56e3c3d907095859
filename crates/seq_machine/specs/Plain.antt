-- Hardware as the plain data of a machine.
use Rattle.std.specs.Prelude.{◌≡◌, ℕ, ◌<◌, Bool, true, false, List, [], get_or, length, replicate, slice_index, slice_index_or}
use Rattle.seq_words.specs.Description.{IsDescription, line_count}
use Rattle.seq_words.specs.declared.description.MachineDesc.{MachineDesc}
use Rattle.seq_words.specs.declared.events.Entry.{Entry}
use Rattle.seq_shelf.specs.Told.{LineView}
use Rattle.seq_shelf.specs.Rows.{line_at}
use Rattle.seq_layout.specs.Shapes.{shape_of}
use Rattle.seq_layout.specs.Copies.{Matches, copies}
use Rattle.seq_io.specs.declared.element.IoElement.{IoElement}
use Rattle.seq_io.specs.declared.element.PortState.{PortState}
use Rattle.seq_turns.specs.declared.hand.Hand.TheVariants.{Seek}
use Rattle.seq_turns.specs.Machines.{Machine}
use Rattle.seq_machine.specs.declared.hardware.Processor.{Processor}
use Rattle.seq_machine.specs.declared.hardware.Hardware.{Hardware}

-- What isn't in the hardware: the history, the bytes that were sent on each line, and which lines are hung up.
pub record Outside : Type 0 where
  pub history : List Entry
  pub sent : ℕ → List ℕ
  pub hung : ℕ → Bool

-- what stands where the machine has no such processor, I/O element or port: what each is at the start
abbrev pub idle_processor : MachineDesc → Processor
idle_processor d = record { hand = Seek; cache = record { capacity = d.cache; changes = [] } }

abbrev pub fresh_element : IoElement
fresh_element = record { up = true; cursor = 0 }

abbrev pub empty_port : MachineDesc → PortState
empty_port d = record { taken = 0; arrived = 0; store = replicate d.journal 0; closed = false }

abbrev pub processor_of : Hardware → ℕ → Processor
processor_of h p = slice_index_or h.processors p (idle_processor h.desc)

-- the hardware as a machine, with this outside
abbrev pub machine_of : Hardware → Outside → Machine
machine_of h o = record {
  copies = copies h.layout h.memories;
  hand = λ p. (processor_of h p).hand;
  cache = λ p. (processor_of h p).cache;
  scan = slice_index h.scan;
  incarnation = slice_index h.incarnations;
  io = λ i. slice_index_or h.ios i fresh_element;
  port = λ l. slice_index_or h.ports l (empty_port h.desc);
  history = o.history;
  sent = o.sent;
  hung = o.hung;
}

-- the outside of a machine
abbrev pub outside_of : Machine → Outside
outside_of m = record { history = m.history; sent = m.sent; hung = m.hung }

-- the outside agrees with the lines: so many bytes were accepted, and the same lines are hung up
pub record IsOutside (lines : List LineView) (marks : List Bool) (o : Outside) : Type 0 where
  pub accepted : (l : ℕ) → l < length lines → length (o.sent l) ≡ (line_at lines l).count
  pub hung : (l : ℕ) → l < length marks → o.hung l ≡ get_or marks l false

-- The hardware of a description's machine: its layout and its memories are those of the description, and there are as many of
-- each element as described.
pub record IsHardware (h : Hardware) : Type 0 where
  pub described : IsDescription h.desc
  pub layout : h.layout ≡ shape_of h.desc
  pub memories : Matches h.layout h.memories
  pub processors : length h.processors ≡ h.desc.processors
  pub ios : length h.ios ≡ h.desc.ios
  pub scan : length h.scan ≡ h.desc.processors
  pub incarnations : length h.incarnations ≡ h.desc.processors
  pub ports : length h.ports ≡ line_count h.desc
