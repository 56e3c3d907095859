-- What the making of some events comes to, in the middle of a course.
use Rattle.std.specs.Prelude.{◌≡◌, ℕ, ◌+◌, ◌≤◌, Bool, true, false, List, [], ◌∷◌, ◌++◌, length}
use Rattle.std.specs.List.{sum_by}
use Rattle.seq_words.specs.Description.{line_count}
use Rattle.seq_words.specs.declared.description.MachineDesc.{MachineDesc}
use Rattle.seq_words.specs.declared.events.Event.{Event}
use Rattle.seq_shelf.specs.Told.{LineView, ChronicleView}
use Rattle.seq_schedule.specs.declared.script.Script.{Script}
use Rattle.seq_schedule.specs.declared.script.Item.{Item}
use Rattle.seq_schedule.specs.Scripted.{events_in}
use Rattle.seq_machine.specs.declared.hardware.Hardware.{Hardware}
use Rattle.seq_machine.specs.declared.hardware.Stop.{Stop}
use Rattle.seq_machine.specs.Plain.{machine_of, outside_of, IsHardware}
use Rattle.seq_machine.specs.Happening.{CountsStay}
use Rattle.seq_machine.specs.Checking.{EndsFor}
use Rattle.seq_machine.specs.Making.{MayMake, IsReadyFor}
use Rattle.seq_machine.specs.Starting.{machine_at_start}
use Rattle.seq_retell.specs.Keeping.{Keeping}
use Rattle.seq_course.specs.Course.{machine_after, AreUnchecked, HasMade, made_by, GoesOn, RunsOut}
use Rattle.seq_course.specs.Room.{most_of}
use Rattle.seq_course.specs.Made.{Released, IsMachineAfter, up_to, AreFirst}

-- What a course works on: the hardware, the chronicle, the lines with the marks of those that are hung up, and the entries that are
-- kept.
pub record Scene : Type 0 where
  pub hardware : Hardware
  pub chronicle : ChronicleView
  pub lines : List LineView
  pub marks : List Bool
  pub kept : Keeping

abbrev pub scene : Hardware → ChronicleView → List LineView → List Bool → Keeping → Scene
scene hardware chronicle lines marks kept = record { hardware = hardware; chronicle = chronicle; lines = lines; marks = marks; kept = kept }

-- A course that began at a scene has come to another by these events, none of them a machine check. What is kept is of their history.
pub record LedTo (d : MachineDesc) (begun : Scene) (es : List Event) (now : Scene) : Type 0 where
  pub unchecked : AreUnchecked d es (machine_at_start d)
  pub machine : IsMachineAfter d es now.hardware now.lines now.marks
  pub released : Released d es begun.chronicle.told now.chronicle.told begun.lines now.lines
  pub counts : CountsStay begun.chronicle now.chronicle
  pub kept : AreFirst now.kept (machine_after d es).history

-- These events may be made next: the hardware has room for them, and they are allowed behind those that led here.
pub record MayCome (more : List Event) (now : Scene) : Type 0 where
  pub ready : IsReadyFor (length more) now.hardware
  pub lines : line_count now.hardware.desc ≤ length now.lines
  pub desc : MachineDesc
  pub begun : Scene
  pub made : List Event
  pub led : LedTo desc begun made now
  pub allowed : MayMake desc more (machine_after desc made)

-- What every event leaves as it is, also one that ends the run: the description, which lines are hung up, and the room for entries.
pub record Stays (old new : Scene) : Type 0 where
  pub desc : new.hardware.desc ≡ old.hardware.desc
  pub hung : new.marks ≡ old.marks
  pub room : new.kept.room ≡ old.kept.room

-- What stays while events are made: besides, how many lines there are, and of the hardware's room all but that of these events.
pub record Keeps (events : ℕ) (old new : Scene) : Type 0 where
  pub ready : (n : ℕ) → IsReadyFor (events + n) old.hardware → IsReadyFor n new.hardware
  pub stays : Stays old new
  pub number : length new.lines ≡ length old.lines

-- These events are made.
pub record Makes (more : List Event) (old new : Scene) : Type 0 where
  pub led : (d : MachineDesc) (begun : Scene) (es : List Event) → LedTo d begun es old → LedTo d begun (es ++ more) new
  pub keeps : Keeps (length more) old new

-- The hardware is the machine after these events.
pub record IsAfter (d : MachineDesc) (es : List Event) (h : Hardware) : Type 0 where
  pub hardware : IsHardware h
  pub described : h.desc ≡ d
  pub machine : machine_of h (outside_of (machine_after d es)) ≡ machine_after d es

-- Behind these events, none of them a machine check, an event ends the run. What was released, what is kept and the hardware are those
-- of the events up to it.
pub record HaltsAt (d : MachineDesc) (begun : Scene) (es : List Event) (e : Event) (new : Scene) (stop : Stop) : Type 0 where
  pub unchecked : AreUnchecked d es (machine_at_start d)
  pub ends : EndsFor d (machine_after d es) e begun.lines new.lines begun.chronicle new.chronicle stop
  pub released : Released d (up_to es e stop) begun.chronicle.told new.chronicle.told begun.lines new.lines
  pub kept : AreFirst new.kept (machine_after d (up_to es e stop)).history
  pub after : IsAfter d (up_to es e stop) new.hardware

-- One of these events, which come next behind some, ends the run.
pub record HaltsAmong (d : MachineDesc) (begun : Scene) (es more : List Event) (new : Scene) (stop : Stop) : Type 0 where
  pub part : List Event
  pub event : Event
  pub rest : List Event
  pub parts : more ≡ part ++ event ∷ rest
  pub halts : HaltsAt d begun (es ++ part) event new stop

-- One of these events ends the run.
pub record Breaks (more : List Event) (old new : Scene) (stop : Stop) : Type 0 where
  pub halts : (d : MachineDesc) (begun : Scene) (es : List Event) → LedTo d begun es old → HaltsAmong d begun es more new stop
  pub stays : Stays old new

-- ---- a script

-- the events of a script, with all rounds of a `finish`
abbrev pub all_of : MachineDesc → Script → List Event
all_of d s = events_in d (λ n. n) s

-- A script has ended so, with k rounds of a `finish`: the schedule goes on behind it, or it doesn't.
abbrev pub EndsAs : MachineDesc → Script → ℕ → List Event → Bool → Type 0
EndsAs d s k es true = GoesOn d s es
EndsAs d s k es false = RunsOut d s k es

-- A script is made behind these events.
pub record IsMade (d : MachineDesc) (begun : Scene) (es : List Event) (s : Script) (on : Bool) (new : Scene) : Type 0 where
  pub rounds : ℕ
  pub made : HasMade d es s rounds
  pub led : LedTo d begun (es ++ made_by d s rounds) new
  pub ends : EndsAs d s rounds (es ++ made_by d s rounds) on

-- A script is made.
pub record MakesScript (s : Script) (on : Bool) (old new : Scene) : Type 0 where
  pub made : (d : MachineDesc) (begun : Scene) (es : List Event) → LedTo d begun es old → IsMade d begun es s on new
  pub keeps : Keeps (length (all_of old.hardware.desc s)) old new

-- An event of a script ends the run.
pub record HaltsIn (d : MachineDesc) (begun : Scene) (es : List Event) (s : Script) (new : Scene) (stop : Stop) : Type 0 where
  pub rounds : ℕ
  pub made : HasMade d es s rounds
  pub among : HaltsAmong d begun es (made_by d s rounds) new stop

pub record BreaksScript (s : Script) (old new : Scene) (stop : Stop) : Type 0 where
  pub halts : (d : MachineDesc) (begun : Scene) (es : List Event) → LedTo d begun es old → HaltsIn d begun es s new stop
  pub stays : Stays old new

-- ---- items

-- A course of these items may begin: the hardware is at its start, and has room for them.
pub record MayBegin (items : List Item) (now : Scene) : Type 0 where
  pub ready : IsReadyFor (sum_by (λ i. most_of now.hardware.desc i.script) items) now.hardware
  pub lines : line_count now.hardware.desc ≤ length now.lines
  pub led : LedTo now.hardware.desc now [] now
