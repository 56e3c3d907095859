-- The printed texts. Each line ends with the byte 10, and numbers are decimal.
use Rattle.std.specs.Prelude.{ℕ, ◌+◌, Bool, true, false, List, [], ◌∷◌, ◌++◌, length, codes, decimal}
use Rattle.std.specs.List.{sum_by}
use Rattle.seq_words.specs.Masks.{has_bit}
use Rattle.seq_words.specs.declared.kinds.Element.{Element}
use Rattle.seq_words.specs.declared.kinds.Element.TheVariants as elements
use Rattle.seq_words.specs.declared.kinds.Blocker.{Blocker}
use Rattle.seq_words.specs.declared.kinds.Blocker.TheVariants as blockers
use Rattle.seq_words.specs.declared.events.Entry.{Entry}
use Rattle.seq_flat.specs.declared.state.End.{End}
use Rattle.seq_flat.specs.declared.state.End.TheVariants.{Live, Exited, Trapped}
use Rattle.seq_flat.specs.declared.state.ProcessState.{ProcessState}
use Rattle.seq_flat.specs.declared.state.FlatState.{FlatState}
use Rattle.seq_report.specs.declared.status.Status.{Status}
use Rattle.seq_report.specs.declared.status.Status.TheVariants.{Done, Refused, Absent, MachineCheck, OutOfTurns, ShelfFault, ChronicleFault, LineFault}

-- ---- the line of a status

-- `p0`, `m1`, `i2`
abbrev pub element_name : Element → List ℕ
element_name (elements.Processor p) = codes "p" ++ decimal p.0
element_name (elements.Memory m) = codes "m" ++ decimal m.0
element_name (elements.Io i) = codes "i" ++ decimal i.0

-- `m1`, `process 0`
abbrev pub blocker_name : Blocker → List ℕ
blocker_name (blockers.Memory m) = codes "m" ++ decimal m.0
blocker_name (blockers.Process p) = codes "process " ++ decimal p.0

-- which element stopped, and what kept the machine from going on
abbrev pub check_words : Element → Blocker → List ℕ
check_words stopped cause = element_name stopped ++ codes " while " ++ blocker_name cause

-- how a run ended: the first line of its report
abbrev pub first_line : Status → List ℕ
first_line Done = codes "done\n"
first_line (MachineCheck line stopped cause) = codes "machine check at line " ++ decimal line ++ codes ": " ++ check_words stopped cause ++ codes "\n"
first_line (OutOfTurns line) = codes "out of turns at line " ++ decimal line ++ codes "\n"
first_line (LineFault line) = codes "line fault " ++ decimal line.0 ++ codes "\n"
first_line ChronicleFault = codes "chronicle fault\n"
first_line _ = []

-- a run ended so: there is a report
abbrev pub is_reported : Status → Bool
is_reported Done = true
is_reported (MachineCheck line stopped cause) = true
is_reported (OutOfTurns line) = true
is_reported (LineFault line) = true
is_reported ChronicleFault = true
is_reported _ = false

-- of a file, by its name: the only line where no run is made
abbrev pub single_line : Status → List ℕ → List ℕ
single_line (Refused file place rule) name = codes "refused " ++ name ++ codes " at " ++ decimal place ++ codes " rule " ++ decimal rule ++ codes "\n"
single_line (Absent file) name = codes "absent " ++ name ++ codes "\n"
single_line ShelfFault name = codes "shelf fault\n"
single_line _ name = []

-- there is such a line
abbrev pub is_single : Status → Bool
is_single (Refused file place rule) = true
is_single (Absent file) = true
is_single ShelfFault = true
is_single _ = false

-- ---- the other lines of a report

-- how many entries a history has, and how many steps they are together
abbrev pub history_line : List Entry → List ℕ
history_line history = codes "history " ++ decimal (length history) ++ codes " " ++ decimal (sum_by (λ e. e.count) history) ++ codes "\n"

-- how a process stands
abbrev pub end_words : End → List ℕ
end_words Live = codes "live"
end_words (Exited code) = codes "exited " ++ decimal code
end_words (Trapped cause pc) = codes "trapped " ++ decimal cause ++ codes " at " ++ decimal pc

abbrev pub process_line : ℕ → ProcessState → List ℕ
process_line p q = codes "process " ++ decimal p ++ codes " " ++ end_words q.end ++ codes "\n"

-- processes from number p on
abbrev pub process_lines : ℕ → List ProcessState → List ℕ
process_lines p [] = []
process_lines p (q ∷ more) = process_line p q ++ process_lines (p + 1) more

abbrev pub hung_words : Bool → List ℕ
hung_words true = codes " hung up"
hung_words false = []

-- how many bytes line l accepted, and whether it is hung up
abbrev pub sent_line : ℕ → ℕ → Bool → List ℕ
sent_line l count hung = codes "line " ++ decimal l ++ codes " " ++ decimal count ++ hung_words hung ++ codes "\n"

-- lines from number l on; the mask has a bit for each line that is hung up
abbrev pub sent_lines : ℕ → ℕ → List ℕ → List ℕ
sent_lines hung l [] = []
sent_lines hung l (count ∷ more) = sent_line l count (has_bit hung l) ++ sent_lines hung (l + 1) more

-- ---- whole texts

-- the report of a run: its status, the history, each process as the flat state has it, and each line
abbrev pub report_text : Status → FlatState → List Entry → List ℕ → ℕ → List ℕ
report_text status f history sent hung =
    first_line status ++ history_line history ++ process_lines 0 f.processes ++ sent_lines hung 0 sent

-- an image of so many bytes was assembled
abbrev pub assembled_text : ℕ → List ℕ
assembled_text bytes = codes "assembled " ++ decimal bytes ++ codes " bytes\n"
