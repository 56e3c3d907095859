-- What it gives that all stands: the bytes sent are right, and a settled machine is done.
use Rattle.std.specs.Prelude.{◌≡◌, List, [], ◌∷◌, ◌++◌, Some}
use Rattle.seq_words.specs.Description.{IsDescription}
use Rattle.seq_words.specs.declared.description.MachineDesc.{MachineDesc}
use Rattle.seq_words.specs.declared.events.Event.{Event}
use Rattle.seq_flat.specs.Run.{flat_run, IsRight}
use Rattle.seq_turns.specs.Machines.{Machine}
use Rattle.seq_turns.specs.Start.{start}
use Rattle.seq_turns.specs.Allowed.{Allowed}
use Rattle.seq_turns.specs.Events.{happens, run}
use Rattle.seq_stands.specs.Standing.{AllAllowed}
use Rattle.seq_invariant.specs.BlockWorks.{committed_blocks}
use Rattle.seq_invariant.specs.BlockRest.{at_start}
use Rattle.seq_lines.specs.Arrivals.{arrived}
use Rattle.seq_lines.specs.Settled.{IsSettled, IsDone}
use Rattle.seq_invariant.specs.Holds.{AllHolds}

-- what is committed is the flat state along the history, with what has arrived
abbrev pub CommittedIsFlatRun : Type 0
CommittedIsFlatRun = (d : MachineDesc) (events : List Event) (m : Machine) (all : AllHolds d events m) → flat_run d (arrived d events) m.history ≡ Some all.at.state

-- what was sent is right
abbrev pub SentIsRight : Type 0
SentIsRight = (d : MachineDesc) (events : List Event) (m : Machine) → AllHolds d events m → IsRight d (arrived d events) m.history m.sent

-- and so it is after one event more, also where that event ends the run
abbrev pub SentIsRightOn : Type 0
SentIsRightOn =
    (d : MachineDesc) (events : List Event) (m : Machine) (e : Event) →
    IsDescription d → AllHolds d events m → Allowed d m e → IsRight d (arrived d (events ++ e ∷ [])) (happens d m e).history (happens d m e).sent

-- the machine at its start, with the blocks of the flat start
abbrev pub at_first : MachineDesc → Machine
at_first d = start d (committed_blocks d (at_start d (arrived d [])))

-- What was sent is right after every list of events from the start that may be made and of which none ends the run.
abbrev pub RunsSendRight : Type 0
RunsSendRight = (d : MachineDesc) (es : List Event) → IsDescription d → AllAllowed d es (at_first d) → IsRight d (arrived d es) (run d es (at_first d)).history (run d es (at_first d)).sent

-- Where the machine is settled, nothing is left to do with what has arrived.
abbrev pub SettledIsDone : Type 0
SettledIsDone = (d : MachineDesc) (events : List Event) (m : Machine) (all : AllHolds d events m) → IsDescription d → IsSettled d m → IsDone d (arrived d events) all.at.state m
