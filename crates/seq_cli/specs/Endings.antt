-- How a command ends, by its status.
use Rattle.std.specs.Prelude.{◌≡◌, ◌⊎◌, ℕ, List, [], ◌∷◌, ◌++◌, reverse}
use Rattle.seq_words.specs.declared.description.MachineDesc.{MachineDesc}
use Rattle.seq_words.specs.declared.kinds.Blocker.{Blocker}
use Rattle.seq_words.specs.declared.kinds.Element.{Element}
use Rattle.seq_words.specs.declared.events.Event.{Event}
use Rattle.seq_schedule.specs.declared.script.Script.TheVariants as scripts
use Rattle.seq_schedule.specs.declared.script.Item.{Item}
use Rattle.seq_schedule.specs.Outs.{IsCovered}
use Rattle.seq_machine.specs.declared.hardware.Stop.TheVariants as stop
use Rattle.seq_course.specs.Course.{ComesTo}
use Rattle.seq_course.specs.declared.ending.Ending.{Ending}
use Rattle.seq_course.specs.declared.ending.Ending.TheVariants as course
use Rattle.seq_report.specs.declared.status.Status.{Status}
use Rattle.seq_report.specs.declared.status.Status.TheVariants.{Done, Usage, Refused, Absent, MachineCheck, OutOfTurns, ShelfFault, SinkFault, ChronicleFault, LineFault, NoMemory}
use Rattle.seq_cli.specs.Files.{Opening, usage, absent, refused, faulty}
use Rattle.seq_cli.specs.Opening.{AsksRun, AsksImage}

-- the status of a run, by how its course ended
abbrev pub status_of : Ending → Status
status_of course.Done = Done
status_of (course.OutOfTurns line) = OutOfTurns line
status_of (course.Stopped line (stop.Check stopped cause)) = MachineCheck line stopped cause
status_of (course.Stopped line (stop.Line l)) = LineFault l
status_of (course.Stopped line stop.Chronicle) = ChronicleFault
status_of (course.Stopped line stop.NoMemory) = NoMemory

-- when a command ends
pub data Moment : Type 0 where
  -- before any run, as the words or the files ask for it
  early : Opening → Moment
  -- for want of memory, at any time
  wanting : Moment
  -- by a run
  ran : Moment
  -- with all done: a run, or an image that is stored or listed
  finished : Moment
  -- by what it prints, and not before
  printing : Moment

abbrev pub moment_of : Status → Moment
moment_of Usage = early usage
moment_of (Absent file) = early (absent file)
moment_of (Refused file place rule) = early (refused file place rule)
moment_of ShelfFault = early faulty
moment_of SinkFault = printing
moment_of NoMemory = wanting
moment_of Done = finished
moment_of (MachineCheck line stopped cause) = ran
moment_of (OutOfTurns line) = ran
moment_of ChronicleFault = ran
moment_of (LineFault line) = ran

-- before it prints, a command ends only when it is asked to: of want of memory nothing is said here
abbrev pub EndsAsked : (Opening → Type 0) → Moment → Type 0
EndsAsked Asked (early o) = Asked o
EndsAsked Asked wanting = Unit {0}
EndsAsked Asked ran = AsksRun Asked
EndsAsked Asked finished = AsksRun Asked ⊎ AsksImage Asked
EndsAsked Asked printing = ⊥

-- the same before any run
abbrev pub EndsEarly : (Opening → Type 0) → Moment → Type 0
EndsEarly Asked (early o) = Asked o
EndsEarly Asked wanting = Unit {0}
EndsEarly Asked ran = ⊥
EndsEarly Asked finished = ⊥
EndsEarly Asked printing = ⊥

-- A status is given only where it is asked for.
abbrev pub Answers : (Opening → Type 0) → Status → Type 0
Answers Asked status = EndsAsked Asked (moment_of status)

-- a status with which the loading ends, where it is asked for
abbrev pub Stops : (Opening → Type 0) → Status → Type 0
Stops Asked status = EndsEarly Asked (moment_of status)

-- a status that may come before the first event
abbrev pub IsEarly : Status → Type 0
IsEarly status = Stops (λ o. Unit {0}) status

-- there is a `finish` among these items on this line
pub record HasFinish (items : List Item) (line : ℕ) : Type 0 where
  pub front : List Item
  pub item : Item
  pub back : List Item
  pub split : items ≡ front ++ item ∷ back
  pub line_is : item.line ≡ line
  pub rounds : ℕ
  pub finish : item.script ≡ scripts.Finish rounds

-- these items come to events, up to one on this line, that aren't covered
pub record AreUncovered (d : MachineDesc) (items : List Item) (line : ℕ) : Type 0 where
  pub events : List Event
  pub event : Event
  pub comes : ComesTo d items line events event
  pub uncovered : IsCovered d (reverse (events ++ event ∷ [])) → ⊥

-- What a run of these items comes to without a fault: all events are made, or memory is wanting, or a `finish` runs out of turns, or
-- events that aren't covered come to a machine check.
abbrev pub EndsFaultless : MachineDesc → List Item → Status → Type 0
EndsFaultless d items status =
    (status ≡ Done)
    ⊎ (status ≡ NoMemory)
    ⊎ ((line : ℕ) × (status ≡ OutOfTurns line) × HasFinish items line)
    ⊎ ((line : ℕ) × (stopped : Element) × (cause : Blocker) × (status ≡ MachineCheck line stopped cause) × AreUncovered d items line)

-- What a command that makes no run comes to without a fault, where all its files are there and violate no rule.
abbrev pub EndsStillFaultless : Status → Type 0
EndsStillFaultless status = (status ≡ Done) ⊎ (status ≡ NoMemory)
