-- What stands of a machine, all together: after every event that doesn't end the run.
use Rattle.std.specs.Prelude.{◌≡◌, ℕ, false, List, [], ◌∷◌, ◌++◌}
use Rattle.seq_words.specs.Description.{IsDescription}
use Rattle.seq_words.specs.declared.description.MachineDesc.{MachineDesc}
use Rattle.seq_words.specs.declared.events.Event.{Event}
use Rattle.seq_turns.specs.Machines.{Machine}
use Rattle.seq_turns.specs.Start.{start}
use Rattle.seq_turns.specs.Allowed.{Allowed}
use Rattle.seq_turns.specs.Events.{happens, is_check, run}
use Rattle.seq_stands.specs.Standing.{Stands, AllAllowed}
use Rattle.seq_stands.specs.Locks.{LocksStand}
use Rattle.seq_stands.specs.FitStanding.{Fits}
use Rattle.seq_invariant.specs.BlockApart.{owners_of}
use Rattle.seq_invariant.specs.BlockWorks.{Committed, committed_blocks}
use Rattle.seq_invariant.specs.BlockStanding.{BlocksStand}
use Rattle.seq_invariant.specs.BlockRest.{at_start}
use Rattle.seq_lines.specs.Arrivals.{arrived}
use Rattle.seq_lines.specs.Lines.{LinesStand}
use Rattle.seq_lines.specs.Inside.{HandIsInside}

-- After these events: words, hands and service; lock words, by the owners in what is committed; bounds; blocks, with the input that
-- has arrived; lines.
pub record Holds (d : MachineDesc) (events : List Event) (at : Committed) (m : Machine) : Type 0 where
  pub words : Stands d m
  pub locks : LocksStand d (owners_of at.state) m
  pub fits : Fits d m
  pub blocks : BlocksStand d at m
  pub input : at.inputs ≡ arrived d events
  pub inside : (p : ℕ) → HandIsInside d (m.hand p)
  pub lines : LinesStand d (arrived d events) at.state m

-- With some flat state committed, which is the one along the history.
pub record AllHolds (d : MachineDesc) (events : List Event) (m : Machine) : Type 0 where
  pub at : Committed
  pub holds : Holds d events at m

-- At the start, with the blocks of the flat start.
abbrev pub StartHolds : Type 0
StartHolds = (d : MachineDesc) → IsDescription d → AllHolds d [] (start d (committed_blocks d (at_start d (arrived d []))))

-- An event keeps all that stands.
abbrev pub Keeps : MachineDesc → List Event → Machine → Event → Type 0
Keeps d events m e = AllHolds d events m → AllHolds d (events ++ e ∷ []) (happens d m e)

-- Every event that may be made and doesn't end the run does.
abbrev pub EventsKeepAll : Type 0
EventsKeepAll = (d : MachineDesc) (events : List Event) (m : Machine) (e : Event) → IsDescription d → Allowed d m e → is_check d m e ≡ false → Keeps d events m e

-- And so does every list of such events.
abbrev pub RunsKeepAll : Type 0
RunsKeepAll = (d : MachineDesc) (events es : List Event) (m : Machine) → IsDescription d → AllAllowed d es m → AllHolds d events m → AllHolds d (events ++ es) (run d es m)

-- So all stands after every such list of events from the start.
abbrev pub RunsHold : Type 0
RunsHold = (d : MachineDesc) (es : List Event) → IsDescription d → AllAllowed d es (start d (committed_blocks d (at_start d (arrived d [])))) → AllHolds d es (run d es (start d (committed_blocks d (at_start d (arrived d [])))))
