-- What a command does that ends with some status before it prints.
use Rattle.std.specs.Prelude.{◌≡◌, ◌⊎◌, ◌↔◌, ℕ, Option, Some, None, List, [], ◌∷◌, ◌++◌, reverse}
use Rattle.seq_words.specs.Description.{IsDescription}
use Rattle.seq_words.specs.declared.description.MachineDesc.{MachineDesc}
use Rattle.seq_words.specs.declared.events.Entry.{Entry}
use Rattle.seq_words.specs.declared.events.Event.{Event}
use Rattle.seq_words.specs.declared.kinds.Blocker.{Blocker}
use Rattle.seq_words.specs.declared.kinds.Element.{Element}
use Rattle.seq_words.specs.declared.names.LineNo.{LineNo}
use Rattle.seq_flat.specs.Run.{IsRight}
use Rattle.seq_shelf.specs.Causes.{Rose}
use Rattle.seq_shelf.specs.Told.{Grows, LineView, ChronicleView, ShelfView, Map}
use Rattle.seq_shelf.specs.Rows.{AllAccept, line_at}
use Rattle.seq_schedule.specs.declared.script.Script.TheVariants as scripts
use Rattle.seq_schedule.specs.declared.script.Item.{Item}
use Rattle.seq_schedule.specs.Outs.{IsCovered}
use Rattle.seq_lines.specs.Arrivals.{arrived}
use Rattle.seq_machine.specs.declared.hardware.Stop.TheVariants.{Check}
use Rattle.seq_course.specs.declared.ending.Ending.{Ending}
use Rattle.seq_course.specs.declared.ending.Ending.TheVariants.{Stopped}
use Rattle.seq_course.specs.Made.{EndsWith, Released, Takes}
use Rattle.seq_course.specs.Done.{DoneAfter, FinishesAreDone}
use Rattle.seq_report.specs.declared.status.Status.{Status}
use Rattle.seq_report.specs.declared.status.Status.TheVariants.{Done, Usage, MachineCheck, ShelfFault, ChronicleFault, LineFault}
use Rattle.seq_cli.specs.Commands.{Command, MakesNoRun}
use Rattle.seq_cli.specs.Files.{ready}
use Rattle.seq_cli.specs.Opening.{OpensForm}
use Rattle.seq_cli.specs.Endings.{status_of, Answers, IsEarly}
use Rattle.seq_cli.specs.Stored.{Leaves}

-- The run that a form and the shelf's files ask for, where the shelf tells them: a machine, and the items of a schedule.
pub record RunFor (form : Option Command) (map : Option Map) : Type 0 where
  pub desc : MachineDesc
  pub items : List Item
  pub files : List (List ℕ)
  pub asked : (m : Map) → map ≡ Some m → OpensForm m None form (ready desc items files)
  pub described : IsDescription desc

-- no event is made: the status is one that comes before the first, or the command makes no run
abbrev pub IsStill : Option Command → Status → Type 0
IsStill form status = IsEarly status ⊎ MakesNoRun form

-- before the first event: no history, and nothing released
pub record IsNothing (form : Option Command) (status : Status) (history : List Entry) (released : ℕ → List ℕ) : Type 0 where
  pub still : IsStill form status
  pub history_is : history ≡ []
  pub released_is : (l : ℕ) → released l ≡ []

-- The status says which events of the run were made. With what arrived in them the flat run along the history is defined, and the
-- bytes released on each line are a prefix of that line's output.
pub record IsRightFor (form : Option Command) (map : Option Map) (status : Status) (before after : ChronicleView) (old new : List LineView) (history : List Entry) (released : ℕ → List ℕ) : Type 0 where
  pub asks : RunFor form map
  pub ending : Ending
  pub status_is : status ≡ status_of ending
  pub events : List Event
  pub ends : EndsWith asks.desc asks.items events before after old new ending
  pub right : IsRight asks.desc (arrived asks.desc events) history released

-- There is a history, which is what the chronicle got, and on each line the bytes that it accepted are right for it.
pub record Releases (form : Option Command) (map : Option Map) (status : Status) (before after : ChronicleView) (old new : List LineView) : Type 0 where
  pub history : List Entry
  pub appended : Grows before.told after.told history
  pub released : ℕ → List ℕ
  pub accepted : AllAccept old new released
  pub right : IsNothing form status history released ⊎ IsRightFor form map status before after old new history released

-- before the first event: the chronicle is as before, and nothing was sent
pub record Idle (form : Option Command) (status : Status) (before after : ChronicleView) (old new : List LineView) : Type 0 where
  pub still : IsStill form status
  pub chronicle : after ≡ before
  pub bytes : AllAccept old new (λ l. [])

-- The course of the run that is asked for ended as the status says, after these events, and released exactly what they do.
pub record RunsAsked (form : Option Command) (map : Option Map) (status : Status) (before after : ChronicleView) (old new : List LineView) : Type 0 where
  pub asks : RunFor form map
  pub ending : Ending
  pub status_is : status ≡ status_of ending
  pub takes : Takes asks.desc asks.items ending before after old new

-- History and bytes are exactly those of the machine, for the events that the status says were made.
abbrev pub Runs : Option Command → Option Map → Status → ChronicleView → ChronicleView → List LineView → List LineView → Type 0
Runs form map status before after old new = Idle form status before after old new ⊎ RunsAsked form map status before after old new

-- At the end of each `finish` that ended, all is done: no process can take a step, and each line has released its output. So it is
-- under Done with all that was made, where the last item is a `finish`.
pub record FinishesAsked (form : Option Command) (map : Option Map) (status : Status) (before after : ChronicleView) (old new : List LineView) : Type 0 where
  pub asks : RunFor form map
  pub each : FinishesAreDone asks.desc asks.items
  pub last : status ≡ Done → (front : List Item) (i : Item) (n : ℕ) → asks.items ≡ front ++ i ∷ [] → i.script ≡ scripts.Finish n → (events : List Event) × Released asks.desc events before.told after.told old new × DoneAfter asks.desc events

abbrev pub Finishes : Option Command → Option Map → Status → ChronicleView → ChronicleView → List LineView → List LineView → Type 0
Finishes form map status before after old new = Idle form status before after old new ⊎ FinishesAsked form map status before after old new

-- The run that is asked for came to a machine check on this line, which stopped this element since this stood against it. The events
-- that were made, the check included, aren't covered.
pub record ChecksAsked (form : Option Command) (map : Option Map) (line : ℕ) (stopped : Element) (cause : Blocker) (before after : ChronicleView) (old new : List LineView) : Type 0 where
  pub asks : RunFor form map
  pub takes : Takes asks.desc asks.items (Stopped line (Check stopped cause)) before after old new
  pub uncovered : IsCovered asks.desc (reverse takes.events) → ⊥

-- A status is given only where the form and the shelf's files ask for it, with the load of one file failing, or of none: so a
-- fault of the shelf comes only at a file before which none is missing or violates a rule.
pub record IsAnswered (form : Option Command) (map : Map) (status : Status) : Type 0 where
  pub failed : Option ℕ
  pub answers : Answers (OpensForm map failed form) status

-- All that a command of this form did which ended with this status before it printed, by what shelf, chronicle and lines were and are.
pub record Ended (form : Option Command) (status : Status) (shelf left : ShelfView) (before after : ChronicleView) (old new : List LineView) : Type 0 where
  -- Under every status: the released bytes are a prefix of the flat output along the appended history.
  pub released : Releases form shelf.told status before after old new
  -- Under every status: history and bytes are exactly those of the machine, for the events that the status says were made.
  pub runs : Runs form shelf.told status before after old new
  -- At the end of each `finish` that ended, all output is released, and no process can take a step.
  pub finished : Finishes form shelf.told status before after old new
  -- Each status has its cause. That of want of memory, of a `finish` that runs out of turns and of a machine check is in `runs`.
  pub usage : status ≡ Usage ↔ (form ≡ None)
  pub answers : (m : Map) → shelf.told ≡ Some m → IsAnswered form m status
  pub shelf_fault : status ≡ ShelfFault → Rose shelf.faults left.faults
  pub chronicle_fault : status ≡ ChronicleFault → Rose before.faults after.faults
  pub line_fault : (l : LineNo) → status ≡ LineFault l → Rose (line_at old l.0).faults (line_at new l.0).faults
  -- A machine check is one of the run, and comes only where the events that were made, the check included, aren't covered.
  pub check : (line : ℕ) (stopped : Element) (cause : Blocker) → status ≡ MachineCheck line stopped cause → ChecksAsked form shelf.told line stopped cause before after old new
  -- Under Done of `asm` the file of that name holds the written image of the source; every other file is as before.
  pub leaves : Leaves form status shelf.told left.told
