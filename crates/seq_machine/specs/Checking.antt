-- A machine check ends the run: an element stops while something stands against it, and the stop stands.
use Rattle.std.specs.Prelude.{◌≡◌, ◌⊎◌, List, Option, Some, None, Result, Ok, Err}
use Rattle.seq_words.specs.declared.description.MachineDesc.{MachineDesc}
use Rattle.seq_words.specs.declared.kinds.Blocker.{Blocker}
use Rattle.seq_words.specs.declared.kinds.Element.{Element}
use Rattle.seq_words.specs.declared.events.Event.{Event}
use Rattle.seq_shelf.specs.Told.{LineView, ChronicleView}
use Rattle.seq_layout.specs.Shapes.{shape_of}
use Rattle.seq_layout.specs.Copies.{Copies}
use Rattle.seq_ruling.specs.Ruling.{HaveRulingWords, AreHeldByOneOf}
use Rattle.seq_kernel.specs.declared.outcomes.Note.{Note}
use Rattle.seq_turns.specs.Machines.{Machine}
use Rattle.seq_turns.specs.Events.{happens, note, stopping, blocker, check}
use Rattle.seq_machine.specs.Happening.{StopsFor}
use Rattle.seq_machine.specs.declared.hardware.Hardware.{Hardware}
use Rattle.seq_machine.specs.declared.hardware.Stop.{Stop}
use Rattle.seq_machine.specs.declared.hardware.Stop.TheVariants as stop

-- The event is a machine check: it ends the run for this reason, which names the element that stops and what stands against it.
abbrev pub IsCheckOf : MachineDesc → Machine → Event → Stop → Type 0
IsCheckOf d m e (stop.Check stopped blocker) = (stopping d m e ≡ Some stopped) × (check d m e ≡ Some blocker)
IsCheckOf d m e (stop.Line line) = ⊥
IsCheckOf d m e stop.Chronicle = ⊥
IsCheckOf d m e stop.NoMemory = ⊥

-- What an event that ends the run leaves of the machine: after a machine check the stop stands, else all is as before.
abbrev pub machine_left : MachineDesc → Machine → Event → Stop → Machine
machine_left d m e (stop.Check stopped blocker) = happens d m e
machine_left d m e (stop.Line line) = m
machine_left d m e stop.Chronicle = m
machine_left d m e stop.NoMemory = m

-- the hardware is as before, unless the run ends by a machine check
abbrev pub StaysUnlessCheck : Hardware → Hardware → Stop → Type 0
StaysUnlessCheck old new (stop.Check stopped blocker) = Unit {0}
StaysUnlessCheck old new (stop.Line line) = new ≡ old
StaysUnlessCheck old new stop.Chronicle = new ≡ old
StaysUnlessCheck old new stop.NoMemory = new ≡ old

-- Why an event ends the run: it is a machine check, or it asks something of the outside that isn't given.
abbrev pub EndsFor : MachineDesc → Machine → Event → List LineView → List LineView → ChronicleView → ChronicleView → Stop → Type 0
EndsFor d m e old_lines new_lines old new reason = IsCheckOf d m e reason ⊎ StopsFor (note d m e) old_lines new_lines old new reason

-- What is read where an element stops may be read: status words, of processors that are there.
pub record MayBeChecked (d : MachineDesc) (p : Copies) : Type 0 where
  pub words : HaveRulingWords (shape_of d) p
  pub holders : AreHeldByOneOf d.processors (shape_of d) p

-- a stop is answered by its note, or ends the run where something stands against it
abbrev pub answered : Note → Element → Option Blocker → Result Note Stop
answered n stopped None = Ok n
answered n stopped (Some blocker) = Err (stop.Check stopped blocker)

-- so is an event that stops this element; one that stops none is answered by its note
abbrev pub answer_to : Note → MachineDesc → Machine → Option Element → Result Note Stop
answer_to n d m None = Ok n
answer_to n d m (Some stopped) = answered n stopped (blocker d m (Some stopped))

-- what an event comes to that asks nothing of the outside
abbrev pub answer : MachineDesc → Machine → Event → Result Note Stop
answer d m e = answer_to (note d m e) d m (stopping d m e)
