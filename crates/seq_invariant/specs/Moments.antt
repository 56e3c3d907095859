-- The machine at every moment: all parts together, after every list of events from the start.
use Rattle.std.specs.Prelude.{◌≡◌, List, Some}
use Rattle.seq_words.specs.Description.{IsDescription}
use Rattle.seq_words.specs.declared.description.MachineDesc.{MachineDesc}
use Rattle.seq_words.specs.declared.events.Event.{Event}
use Rattle.seq_flat.specs.declared.state.FlatState.{FlatState}
use Rattle.seq_flat.specs.Run.{flat_run}
use Rattle.seq_turns.specs.Machines.{Machine}
use Rattle.seq_turns.specs.Events.{run}
use Rattle.seq_stands.specs.Standing.{AllAllowed}
use Rattle.seq_lines.specs.Arrivals.{arrived}
use Rattle.seq_invariant.specs.Gives.{at_first}
use Rattle.seq_invariant.specs.Parts.{MemoriesServe, StatusWordsName, StatusWordsHaveFormat, LinesCount}
use Rattle.seq_invariant.specs.Processes.{LocksName, RunningIsAhead}
use Rattle.seq_invariant.specs.AreasHold.{RestingAreasHold, FirstPassHolds, SecondPassHolds}
use Rattle.seq_invariant.specs.FlushAreas.{FlushAreasAre}
use Rattle.seq_invariant.specs.LeftAreas.{LeftAreasHold}

-- With the input that these events brought, and the flat state along the history.
pub record StateIs (d : MachineDesc) (events : List Event) (m : Machine) : Type 0 where
  pub committed : FlatState
  pub along : flat_run d (arrived d events) m.history ≡ Some committed
  pub memories : MemoriesServe d m
  pub resting : RestingAreasHold d committed m
  pub first_pass : FirstPassHolds d (arrived d events) committed m
  pub second_pass : SecondPassHolds d committed m
  pub areas : FlushAreasAre d m
  pub left : LeftAreasHold d committed m
  pub running : RunningIsAhead d (arrived d events) committed m
  pub locks : LocksName d committed m
  pub status_words : StatusWordsName d m
  pub format : StatusWordsHaveFormat d m
  pub lines : LinesCount d (arrived d events) committed m

-- So it is after every list of events from the start that may be made and of which none ends the run.
abbrev pub RunsShow : Type 0
RunsShow = (d : MachineDesc) (es : List Event) → IsDescription d → AllAllowed d es (at_first d) → StateIs d es (run d es (at_first d))
