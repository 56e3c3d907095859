-- All that stands of a machine, and that it stays within its bounds: after every event that doesn't end the run.
use Rattle.std.specs.Prelude.{◌≡◌, ℕ, ◌<◌, Bool, false, List, [], ◌∷◌, ◌++◌, length}
use Rattle.seq_words.specs.Description.{IsDescription}
use Rattle.seq_words.specs.declared.description.MachineDesc.{MachineDesc}
use Rattle.seq_words.specs.declared.events.Event.{Event}
use Rattle.seq_turns.specs.Machines.{Machine}
use Rattle.seq_turns.specs.Allowed.{Allowed}
use Rattle.seq_turns.specs.Events.{happens, is_check, run}
use Rattle.seq_stands.specs.Plain.{IsInTime}
use Rattle.seq_stands.specs.Standing.{Stands, AllAllowed}
use Rattle.seq_stands.specs.Fit.{Fit}
use Rattle.seq_invariant.specs.Holds.{AllHolds}
use Rattle.seq_invariant.specs.Gives.{at_first}

-- On both copies status words have the format, and name no incarnation above the processor's present one.
pub record StatusWordsInTime (d : MachineDesc) (m : Machine) : Type 0 where
  pub each : (q : ℕ) (c : Bool) → q < length d.processes → IsInTime d m (m.copies.word q 0 c)

-- After these events all stands, each element is within its bounds, and status words are in time.
pub record HoldsWithin (d : MachineDesc) (events : List Event) (m : Machine) : Type 0 where
  pub all : AllHolds d events m
  pub fit : Fit d m
  pub in_time : StatusWordsInTime d m

-- Every event that may be made keeps status words in time, also one that ends the run.
abbrev pub EventsKeepInTime : Type 0
EventsKeepInTime = (d : MachineDesc) (m : Machine) (e : Event) → IsDescription d → Allowed d m e → Stands d m → StatusWordsInTime d m → StatusWordsInTime d (happens d m e)

-- At the start, with the blocks of the flat start.
abbrev pub StartHoldsWithin : Type 0
StartHoldsWithin = (d : MachineDesc) → IsDescription d → HoldsWithin d [] (at_first d)

-- Every such event keeps all of it.
abbrev pub EventsKeepWithin : Type 0
EventsKeepWithin =
    (d : MachineDesc) (events : List Event) (m : Machine) (e : Event) →
    IsDescription d → Allowed d m e → is_check d m e ≡ false → HoldsWithin d events m → HoldsWithin d (events ++ e ∷ []) (happens d m e)

-- And so does every list of such events.
abbrev pub RunsKeepWithin : Type 0
RunsKeepWithin = (d : MachineDesc) (events es : List Event) (m : Machine) → IsDescription d → AllAllowed d es m → HoldsWithin d events m → HoldsWithin d (events ++ es) (run d es m)

-- So it is after every such list of events from the start.
abbrev pub RunsHoldWithin : Type 0
RunsHoldWithin = (d : MachineDesc) (es : List Event) → IsDescription d → AllAllowed d es (at_first d) → HoldsWithin d es (run d es (at_first d))

-- In particular, the machine fits then.
abbrev pub RunsFit : Type 0
RunsFit = (d : MachineDesc) (es : List Event) → IsDescription d → AllAllowed d es (at_first d) → Fit d (run d es (at_first d))
