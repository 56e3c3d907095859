-- What a course has made of the hardware, the lines and the chronicle, and how it ended.
use Rattle.std.specs.Prelude.{◌≡◌, ℕ, Bool, Option, List, [], ◌∷◌, ◌++◌, take}
use Rattle.seq_words.specs.declared.description.MachineDesc.{MachineDesc}
use Rattle.seq_words.specs.declared.events.Entry.{Entry}
use Rattle.seq_words.specs.declared.events.Event.{Event}
use Rattle.seq_shelf.specs.Told.{Grows, LineView, ChronicleView}
use Rattle.seq_shelf.specs.Rows.{AllAccept}
use Rattle.seq_schedule.specs.declared.script.Item.{Item}
use Rattle.seq_lines.specs.Arrivals.{arrived}
use Rattle.seq_machine.specs.declared.hardware.Hardware.{Hardware}
use Rattle.seq_machine.specs.declared.hardware.Stop.{Stop}
use Rattle.seq_machine.specs.declared.hardware.Stop.TheVariants as stop
use Rattle.seq_machine.specs.Plain.{machine_of, outside_of, IsOutside}
use Rattle.seq_machine.specs.Checking.{EndsFor}
use Rattle.seq_retell.specs.Keeping.{Keeping}
use Rattle.seq_retell.specs.Shown.{inputs_shown}
use Rattle.seq_course.specs.Course.{machine_after, Passes, EndsAt, ComesTo}
use Rattle.seq_course.specs.declared.ending.Ending.{Ending}
use Rattle.seq_course.specs.declared.ending.Ending.TheVariants.{Done, OutOfTurns, Stopped}

-- These events were made: the history that the chronicle got and the bytes that the lines accepted are those of the machine.
pub record Released (d : MachineDesc) (es : List Event) (before after : Option (List Entry)) (old new : List LineView) : Type 0 where
  pub history : Grows before after (machine_after d es).history
  pub bytes : AllAccept old new (machine_after d es).sent

-- and the hardware, with what the lines show, is the machine after them
pub record IsMachineAfter (d : MachineDesc) (es : List Event) (h : Hardware) (lines : List LineView) (marks : List Bool) : Type 0 where
  pub described : h.desc ≡ d
  pub machine : machine_of h (outside_of (machine_after d es)) ≡ machine_after d es
  pub shown : IsOutside lines marks (outside_of (machine_after d es))

-- The events up to one that ends the run: a machine check is made, and else the event isn't.
abbrev pub up_to : List Event → Event → Stop → List Event
up_to es e (stop.Check stopped blocker) = es ++ e ∷ []
up_to es e (stop.Line line) = es
up_to es e stop.Chronicle = es
up_to es e stop.NoMemory = es

-- The event that is next after some ends the run, on this line of the schedule: it is a machine check, with the two names of this
-- stop, or a count rose. These are the events up to it.
pub record EndsRun (d : MachineDesc) (items : List Item) (es : List Event) (line : ℕ) (reason : Stop) (before after : ChronicleView) (old new : List LineView) : Type 0 where
  pub made : List Event
  pub event : Event
  pub comes : ComesTo d items line made event
  pub ends : EndsFor d (machine_after d made) event old new before after reason
  pub events_are : es ≡ up_to made event reason

-- How a course of these items ended, with these events made: with all of them, with a `finish` that ran out of turns, or with or
-- before an event that ended the run.
abbrev pub EndsWith : MachineDesc → List Item → List Event → ChronicleView → ChronicleView → List LineView → List LineView → Ending → Type 0
EndsWith d items es before after old new Done = Passes d [] items es
EndsWith d items es before after old new (OutOfTurns line) = EndsAt d items line es
EndsWith d items es before after old new (Stopped line reason) = EndsRun d items es line reason before after old new

-- A course of these items: the events that were made, by how it ended, and what they released.
pub record Takes (d : MachineDesc) (items : List Item) (ending : Ending) (before after : ChronicleView) (old new : List LineView) : Type 0 where
  pub events : List Event
  pub ends : EndsWith d items events before after old new ending
  pub released : Released d events before.told after.told old new

-- the entries that are kept are the first of the history, as many as there is room for
abbrev pub AreFirst : Keeping → List Entry → Type 0
AreFirst kept history = kept.entries ≡ take kept.room history

-- What is left for a report after these events: the first entries of the history, and at the ports just what arrived.
pub record Tells (d : MachineDesc) (es : List Event) (h : Hardware) (kept : Keeping) : Type 0 where
  pub entries : AreFirst kept (machine_after d es).history
  pub inputs : inputs_shown h.ports ≡ arrived d es

-- A course of these items, and what it leaves for a report.
pub record TakesTelling (d : MachineDesc) (items : List Item) (ending : Ending) (before after : ChronicleView) (old new : List LineView) (h : Hardware) (kept : Keeping) : Type 0 where
  pub takes : Takes d items ending before after old new
  pub tells : Tells d takes.events h kept
