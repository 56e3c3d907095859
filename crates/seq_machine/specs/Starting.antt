-- Hardware at its start.
use Rattle.std.specs.Prelude.{false, []}
use Rattle.seq_words.specs.declared.description.MachineDesc.{MachineDesc}
use Rattle.seq_turns.specs.Machines.{Machine}
use Rattle.seq_turns.specs.Start.{start}
use Rattle.seq_start.specs.Begun.{start_image}
use Rattle.seq_machine.specs.Plain.{Outside}

-- nothing has happened yet, nothing is sent, no line is hung up
abbrev pub no_outside : Outside
no_outside = record { history = []; sent = λ l. []; hung = λ l. false }

-- the machine of a description at its start, with the image of the flat start in its memories
abbrev pub machine_at_start : MachineDesc → Machine
machine_at_start d = start d (start_image d)
