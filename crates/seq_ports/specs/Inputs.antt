-- What the ports of a machine show.
use Rattle.std.specs.Prelude.{◌≡◌, ℕ, ◌<◌, List, length, slice_index_or}
use Rattle.seq_words.specs.Description.{IsDescription, line_count}
use Rattle.seq_words.specs.declared.description.MachineDesc.{MachineDesc}
use Rattle.seq_words.specs.declared.events.Event.{Event}
use Rattle.seq_io.specs.declared.element.PortState.{PortState}
use Rattle.seq_turns.specs.Events.{run}
use Rattle.seq_stands.specs.Standing.{AllAllowed}
use Rattle.seq_lines.specs.Arrivals.{arrived}
use Rattle.seq_invariant.specs.Gives.{at_first}
use Rattle.seq_retell.specs.Shown.{inputs_shown}

-- these ports are those of the machine after these events
pub record AreThose (d : MachineDesc) (es : List Event) (ports : List PortState) (none : PortState) : Type 0 where
  pub many : length ports ≡ line_count d
  pub same : (l : ℕ) → l < line_count d → slice_index_or ports l none ≡ (run d es (at_first d)).port l

-- They show just what arrived in the events, where these may be made from the start and none ends the run.
abbrev pub PortsShowArrivals : Type 0
PortsShowArrivals = (d : MachineDesc) (es : List Event) (ports : List PortState) (none : PortState) → IsDescription d → AllAllowed d es (at_first d) → AreThose d es ports none → inputs_shown ports ≡ arrived d es
