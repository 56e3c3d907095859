-- The numbers of statuses.
use Rattle.std.specs.Prelude.{ℕ}
use Rattle.seq_report.specs.declared.status.Status.{Status}
use Rattle.seq_report.specs.declared.status.Status.TheVariants.{Done, Usage, Refused, Absent, MachineCheck, OutOfTurns, ShelfFault, SinkFault, ChronicleFault, LineFault, NoMemory}

-- the number with which the program ends
abbrev pub number_of : Status → ℕ
number_of Done = 0
number_of Usage = 2
number_of (Refused file place rule) = 3
number_of (Absent file) = 3
number_of (MachineCheck line stopped cause) = 4
number_of (OutOfTurns line) = 5
number_of ShelfFault = 6
number_of SinkFault = 6
number_of ChronicleFault = 6
number_of (LineFault line) = 7
number_of NoMemory = 8
