-- What is read to see whether the machine is settled.
use Rattle.std.specs.Prelude.{ℕ, ◌<◌, length, map, slice_index_or}
use Rattle.std.specs.List.{range_with_len}
use Rattle.seq_words.specs.declared.description.MachineDesc.{MachineDesc}
use Rattle.seq_layout.specs.Shapes.{shape_of}
use Rattle.seq_layout.specs.Contexts.{IsContextBlocks}
use Rattle.seq_layout.specs.Copies.{Copies, copies, first_block}
use Rattle.seq_ruling.specs.Ruling.{AreHeldByOneOf}
use Rattle.seq_kernel.specs.Views.{Blocks}
use Rattle.seq_io.specs.Bounds.{AreReadable}
use Rattle.seq_io.specs.declared.element.PortState.{PortState}
use Rattle.seq_lines.specs.Going.{HeldAreThere}
use Rattle.seq_machine.specs.declared.hardware.Hardware.{Hardware}
use Rattle.seq_machine.specs.Plain.{empty_port}

-- Every extent has a copy in service. Status words are inside the format and name processors that are there; so are contexts, and
-- name segments that are there.
pub record MayBeSettled (d : MachineDesc) (p : Copies) : Type 0 where
  pub readable : AreReadable (shape_of d) p
  pub named : AreHeldByOneOf d.processors (shape_of d) p
  pub contexts : (q : ℕ) → q < length d.processes → IsContextBlocks (map (first_block (shape_of d) p q) (range_with_len 0 8))
  pub held : HeldAreThere d (first_block (shape_of d) p)

-- the first copies of the hardware's blocks, and its ports
abbrev pub held_copies : Hardware → Copies
held_copies h = copies h.layout h.memories

abbrev pub first_blocks : Hardware → Blocks
first_blocks h = first_block (shape_of h.desc) (held_copies h)

abbrev pub ports_of : Hardware → ℕ → PortState
ports_of h l = slice_index_or h.ports l (empty_port h.desc)
