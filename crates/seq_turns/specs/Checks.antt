-- An event ends the run exactly where its machine check names something.
use Rattle.std.specs.Prelude.{◌≡◌, ◌↔◌, true, is_some, Some}
use Rattle.seq_words.specs.declared.description.MachineDesc.{MachineDesc}
use Rattle.seq_words.specs.declared.events.Event.{Event}
use Rattle.seq_words.specs.declared.kinds.Element.{Element}
use Rattle.seq_kernel.specs.declared.outcomes.Note.TheVariants.{Stopped}
use Rattle.seq_turns.specs.Machines.{Machine}
use Rattle.seq_turns.specs.Events.{note, stopping, is_check, check}

-- it names a memory that isn't in service or a process that awaits recovery
abbrev pub ChecksNameABlocker : Type 0
ChecksNameABlocker = (d : MachineDesc) (m : Machine) (e : Event) → (is_check d m e ≡ true) ↔ (is_some (check d m e) ≡ true)

-- the element that stops is the one that the event's note names
abbrev pub StopsAreNoted : Type 0
StopsAreNoted = (d : MachineDesc) (m : Machine) (e : Event) (x : Element) → stopping d m e ≡ Some x → note d m e ≡ Stopped x
