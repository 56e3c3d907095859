-- Hands, caches, lines and ports stay within their bounds together.
use Rattle.std.specs.Prelude.{ℕ, suc, ◌≤◌, List, [], ◌∷◌}
use Rattle.seq_words.specs.Description.{IsDescription}
use Rattle.seq_words.specs.declared.block.Block.{Block}
use Rattle.seq_words.specs.declared.description.MachineDesc.{MachineDesc}
use Rattle.seq_words.specs.declared.events.Event.{Event}
use Rattle.seq_words.specs.declared.events.Event.TheVariants as event
use Rattle.seq_turns.specs.Machines.{Machine}
use Rattle.seq_turns.specs.Start.{start}
use Rattle.seq_turns.specs.Allowed.{Allowed}
use Rattle.seq_turns.specs.Events.{happens, run}
use Rattle.seq_stands.specs.Standing.{Stands, AllAllowed}
use Rattle.seq_stands.specs.FitHands.{HandsFit, TakesWithin}
use Rattle.seq_stands.specs.FitLines.{LinesFit, WritesFit}

pub record Fits (d : MachineDesc) (m : Machine) : Type 0 where
  pub hands : HandsFit d m
  pub lines : LinesFit d m

-- What an event takes from the blocks: a process that is taken up is within its bounds, and so is what contexts say is written.
abbrev pub Takes : MachineDesc → Machine → Event → Type 0
Takes d m (event.Processor p) = TakesWithin d m p.0
Takes d m (event.Io i) = WritesFit d m
Takes d m (event.Input l byte) = Unit {0}
Takes d m (event.Close l) = Unit {0}
Takes d m (event.Fail e) = Unit {0}
Takes d m (event.Repair e) = Unit {0}
Takes d m (event.Upset p half reg mask) = Unit {0}
Takes d m (event.Hangup l) = Unit {0}

abbrev pub AllTake : MachineDesc → List Event → Machine → Type 0
AllTake d [] m = Unit {0}
AllTake d (e ∷ es) m = Takes d m e × AllTake d es (happens d m e)

abbrev pub StartFits : Type 0
StartFits = (d : MachineDesc) (image : ℕ → ℕ → Block) → IsDescription d → Fits d (start d image)

-- every event keeps the bounds, and so does every list of events
abbrev pub EventsKeepFits : Type 0
EventsKeepFits = (d : MachineDesc) (m : Machine) (e : Event) → IsDescription d → Allowed d m e → Stands d m → Takes d m e → Fits d m → Fits d (happens d m e)

abbrev pub RunsKeepFits : Type 0
RunsKeepFits = (d : MachineDesc) (es : List Event) (m : Machine) → IsDescription d → AllAllowed d es m → AllTake d es m → Stands d m → Fits d m → Fits d (run d es m)

-- an incarnation grows by one at most
abbrev pub IncarnationsGrow : Type 0
IncarnationsGrow = (d : MachineDesc) (m : Machine) (e : Event) (p : ℕ) → (happens d m e).incarnation p ≤ suc (m.incarnation p)
