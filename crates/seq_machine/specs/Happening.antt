-- What an event asks of the outside, by its note, and why it may end the run.
use Rattle.std.specs.Prelude.{◌≡◌, ◌≤◌, ◌⊎◌, ℕ, List, [], ◌∷◌, Option, Some, None}
use Rattle.seq_words.specs.declared.events.Entry.{Entry}
use Rattle.seq_shelf.specs.Causes.{Rose}
use Rattle.seq_shelf.specs.Told.{LineView, ChronicleView}
use Rattle.seq_shelf.specs.Rows.{on_line}
use Rattle.seq_kernel.specs.declared.outcomes.Note.{Note}
use Rattle.seq_kernel.specs.declared.outcomes.Note.TheVariants.{Nothing, Held, Looked, Ran, Found, Moved, Copied, Committed, Sent, Taken, Stopped, Made}
use Rattle.seq_machine.specs.Serving.{StopsAt}
use Rattle.seq_machine.specs.declared.hardware.Stop.{Stop}
use Rattle.seq_machine.specs.declared.hardware.Stop.TheVariants as stop

-- the bytes that are sent on each line: the byte of a note that says so
abbrev pub sent_in : Note → ℕ → List ℕ
sent_in (Sent line byte) l = on_line line.0 (byte ∷ []) l
sent_in Nothing l = []
sent_in Held l = []
sent_in (Looked pid) l = []
sent_in (Ran pid) l = []
sent_in (Found pid cause) l = []
sent_in Moved l = []
sent_in (Copied me) l = []
sent_in (Committed pid count) l = []
sent_in (Taken line) l = []
sent_in (Stopped e) l = []
sent_in Made l = []

-- the entry that a note says was committed
abbrev pub entries_in : Note → List Entry
entries_in (Committed pid count) = record { pid = pid; count = count } ∷ []
entries_in Nothing = []
entries_in Held = []
entries_in (Looked pid) = []
entries_in (Ran pid) = []
entries_in (Found pid cause) = []
entries_in Moved = []
entries_in (Copied me) = []
entries_in (Sent line byte) = []
entries_in (Taken line) = []
entries_in (Stopped e) = []
entries_in Made = []

-- an entry, if there is one
abbrev pub entries_of : Option Entry → List Entry
entries_of (Some entry) = entry ∷ []
entries_of None = []

-- a byte is sent on line l
abbrev pub IsSentOn : Note → ℕ → Type 0
IsSentOn (Sent line byte) l = line.0 ≡ l
IsSentOn Nothing l = ⊥
IsSentOn Held l = ⊥
IsSentOn (Looked pid) l = ⊥
IsSentOn (Ran pid) l = ⊥
IsSentOn (Found pid cause) l = ⊥
IsSentOn Moved l = ⊥
IsSentOn (Copied me) l = ⊥
IsSentOn (Committed pid count) l = ⊥
IsSentOn (Taken line) l = ⊥
IsSentOn (Stopped e) l = ⊥
IsSentOn Made l = ⊥

-- an entry is committed
abbrev pub IsCommitted : Note → Type 0
IsCommitted (Committed pid count) = Unit {0}
IsCommitted Nothing = ⊥
IsCommitted Held = ⊥
IsCommitted (Looked pid) = ⊥
IsCommitted (Ran pid) = ⊥
IsCommitted (Found pid cause) = ⊥
IsCommitted Moved = ⊥
IsCommitted (Copied me) = ⊥
IsCommitted (Sent line byte) = ⊥
IsCommitted (Taken line) = ⊥
IsCommitted (Stopped e) = ⊥
IsCommitted Made = ⊥

-- a fault of the chronicle, or memory that was refused to it: the count rose in this call
abbrev pub ChronicleStops : ChronicleView → ChronicleView → Stop → Type 0
ChronicleStops old new (stop.Line line) = ⊥
ChronicleStops old new stop.Chronicle = Rose old.faults new.faults
ChronicleStops old new stop.NoMemory = Rose old.refusals new.refusals
ChronicleStops old new (stop.Check element blocker) = ⊥

-- the counts of a chronicle never fall
pub record CountsStay (old new : ChronicleView) : Type 0 where
  pub faults : old.faults ≤ new.faults
  pub refusals : old.refusals ≤ new.refusals

-- the line on which a byte was to be sent ends the run for this reason
pub record StopsAtLine (note : Note) (old new : List LineView) (reason : Stop) : Type 0 where
  pub line : ℕ
  pub sent : IsSentOn note line
  pub stops : StopsAt line old new reason

-- the chronicle does, where an entry was to be committed
pub record StopsAtCommit (note : Note) (old new : ChronicleView) (reason : Stop) : Type 0 where
  pub committed : IsCommitted note
  pub stops : ChronicleStops old new reason

-- An event that has this note ends the run for one of these.
abbrev pub StopsFor : Note → List LineView → List LineView → ChronicleView → ChronicleView → Stop → Type 0
StopsFor note old_lines new_lines old new reason = StopsAtLine note old_lines new_lines reason ⊎ StopsAtCommit note old new reason
