-- What ports show of the input.
use Rattle.std.specs.Prelude.{List, map, take}
use Rattle.seq_flat.specs.declared.inputs.LineInput.{LineInput}
use Rattle.seq_io.specs.declared.element.PortState.{PortState}

-- what has arrived at a port
abbrev pub input_shown : PortState → LineInput
input_shown port = record { bytes = take port.arrived port.store; closed = port.closed }

-- on each line
abbrev pub inputs_shown : List PortState → List LineInput
inputs_shown ports = map input_shown ports
