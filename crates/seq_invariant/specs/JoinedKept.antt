-- With what stands of words and blocks, every event keeps what stands of the lines.
use Rattle.std.specs.Prelude.{◌≡◌, ℕ, List, [], ◌∷◌, ◌++◌, Some}
use Rattle.seq_words.specs.Description.{IsDescription}
use Rattle.seq_words.specs.declared.description.MachineDesc.{MachineDesc}
use Rattle.seq_flat.specs.declared.inputs.LineInput.{LineInput}
use Rattle.seq_flat.specs.declared.state.FlatState.{FlatState}
use Rattle.seq_flat.specs.Run.{flat_run, IsRight}
use Rattle.seq_words.specs.declared.events.Event.{Event}
use Rattle.seq_turns.specs.Machines.{Machine}
use Rattle.seq_turns.specs.Allowed.{Allowed}
use Rattle.seq_turns.specs.Events.{after_io, happens}
use Rattle.seq_stands.specs.Standing.{Stands}
use Rattle.seq_invariant.specs.BlockWorks.{Committed}
use Rattle.seq_invariant.specs.BlockStanding.{BlocksStand}
use Rattle.seq_lines.specs.Arrivals.{arrived}
use Rattle.seq_lines.specs.Lines.{LinesStand}
use Rattle.seq_lines.specs.Inside.{HandIsInside}
use Rattle.seq_lines.specs.Settled.{IsSettled, IsDone}

-- What stands of a machine after these events, with the flat state along its history.
pub record StandsAfter (d : MachineDesc) (events : List Event) (at : Committed) (m : Machine) : Type 0 where
  pub words : Stands d m
  pub blocks : BlocksStand d at m
  pub input : at.inputs ≡ arrived d events
  pub inside : (p : ℕ) → HandIsInside d (m.hand p)
  pub lines : LinesStand d (arrived d events) at.state m

-- The history is a flat run after every event that may be made, also after one that ends the run.
abbrev pub HistoryRunsOn : Type 0
HistoryRunsOn =
    (d : MachineDesc) (events : List Event) (at : Committed) (m : Machine) (e : Event) →
    StandsAfter d events at m → Allowed d m e → (now : FlatState) × (flat_run d (arrived d (events ++ e ∷ [])) (happens d m e).history ≡ Some now)

-- The lines stand after one event more, over the state along the history as it is then.
abbrev pub LinesStandOn : Type 0
LinesStandOn =
    (d : MachineDesc) (events : List Event) (at : Committed) (m : Machine) (e : Event) (now : FlatState) →
    IsDescription d → StandsAfter d events at m → Allowed d m e →
    flat_run d (arrived d (events ++ e ∷ [])) (happens d m e).history ≡ Some now →
    LinesStand d (arrived d (events ++ e ∷ [])) now (happens d m e)

-- So do the segments that hands have to do with.
abbrev pub InsideStandsOn : Type 0
InsideStandsOn =
    (d : MachineDesc) (events : List Event) (at : Committed) (m : Machine) (e : Event) →
    IsDescription d → StandsAfter d events at m → (p : ℕ) → HandIsInside d ((happens d m e).hand p)

-- What was sent is right, with what has arrived by the events made.
abbrev pub SentIsRightAfter : Type 0
SentIsRightAfter = (d : MachineDesc) (events : List Event) (at : Committed) (m : Machine) → StandsAfter d events at m → IsRight d (arrived d events) m.history m.sent

-- And after one event more, also where that event ends the run.
abbrev pub SentIsRightOn : Type 0
SentIsRightOn =
    (d : MachineDesc) (events : List Event) (at : Committed) (m : Machine) (e : Event) →
    IsDescription d → StandsAfter d events at m → Allowed d m e →
    IsRight d (arrived d (events ++ e ∷ [])) (happens d m e).history (happens d m e).sent

-- Where the machine is settled, nothing is left to do with what has arrived.
abbrev pub SettledIsDoneAfter : Type 0
SettledIsDoneAfter =
    (d : MachineDesc) (events : List Event) (at : Committed) (m : Machine) →
    IsDescription d → StandsAfter d events at m → IsSettled d m → IsDone d (arrived d events) at.state m

-- A turn of an I/O element keeps what stands of the blocks: it writes blocks of journals alone, each of 32 bytes.
abbrev pub IoKeepsBlocks : Type 0
IoKeepsBlocks =
    (d : MachineDesc) (inputs : List LineInput) (f : FlatState) (at : Committed) (m : Machine) (i : ℕ) →
    IsDescription d → Stands d m → LinesStand d inputs f m → BlocksStand d at m → BlocksStand d at (after_io d m i)
