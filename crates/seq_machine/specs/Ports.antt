-- The port of a line.
use Rattle.std.specs.Prelude.{ℕ, slice_index_or}
use Rattle.seq_io.specs.declared.element.PortState.{PortState}
use Rattle.seq_machine.specs.declared.hardware.Hardware.{Hardware}
use Rattle.seq_machine.specs.Plain.{empty_port}

abbrev pub port_of : Hardware → ℕ → PortState
port_of h l = slice_index_or h.ports l (empty_port h.desc)
