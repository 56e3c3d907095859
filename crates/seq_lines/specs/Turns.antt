-- What the turns of processors keep, and every event.
use Rattle.std.specs.Prelude.{◌≡◌, ℕ, List}
use Rattle.seq_words.specs.Description.{IsDescription}
use Rattle.seq_words.specs.declared.description.MachineDesc.{MachineDesc}
use Rattle.seq_flat.specs.declared.inputs.LineInput.{LineInput}
use Rattle.seq_flat.specs.declared.state.FlatState.{FlatState}
use Rattle.seq_flat.specs.Reached.{IsReached}
use Rattle.seq_words.specs.declared.events.Event.{Event}
use Rattle.seq_words.specs.declared.events.Event.TheVariants as event
use Rattle.seq_turns.specs.Machines.{Machine}
use Rattle.seq_turns.specs.Processors.{turn}
use Rattle.seq_turns.specs.Allowed.{Allowed}
use Rattle.seq_turns.specs.Events.{after_turn, happens}
use Rattle.seq_stands.specs.Standing.{Stands}
use Rattle.seq_lines.specs.Arrivals.{Brings}
use Rattle.seq_lines.specs.Lines.{LinesStand}
use Rattle.seq_lines.specs.Known.{SteadyHold, TurnIsOffLines, HandIsWithin, ClaimsImage, CommitsAs, commit_of}

-- What the lines need of a processor's turn: it changes nothing of theirs, its hand is within its bounds and claims what was
-- committed, and f becomes g by what it commits.
pub record TurnIsKnown (d : MachineDesc) (f g : FlatState) (commits : ℕ → ℕ) (m : Machine) (p : ℕ) : Type 0 where
  pub off : TurnIsOffLines d (turn d m p (m.hand p))
  pub within : HandIsWithin d (m.hand p)
  pub claims : ClaimsImage d m.copies f commits (m.hand p)
  pub leads : CommitsAs d f g (commit_of (turn d m p (m.hand p))) (m.hand p)

abbrev pub TurnsKeepLines : Type 0
TurnsKeepLines =
    (d : MachineDesc) (inputs : List LineInput) (f g : FlatState) (commits : ℕ → ℕ) (m : Machine) (p : ℕ) →
    IsDescription d → IsReached d f → Stands d m → TurnIsKnown d f g commits m p → LinesStand d inputs f m →
    LinesStand d inputs g (after_turn d m p (turn d m p (m.hand p)))

-- What the lines need of an event, with f committed before it and g after it.
abbrev pub EventIsKnown : MachineDesc → FlatState → FlatState → (ℕ → ℕ) → Machine → Event → Type 0
EventIsKnown d f g commits m (event.Processor p) = TurnIsKnown d f g commits m p.0
EventIsKnown d f g commits m (event.Io i) = SteadyHold d m f commits × (g ≡ f)
EventIsKnown d f g commits m (event.Input l byte) = g ≡ f
EventIsKnown d f g commits m (event.Close l) = g ≡ f
EventIsKnown d f g commits m (event.Fail e) = g ≡ f
EventIsKnown d f g commits m (event.Repair e) = g ≡ f
EventIsKnown d f g commits m (event.Upset p half reg mask) = g ≡ f
EventIsKnown d f g commits m (event.Hangup l) = g ≡ f

-- Every event that may be made keeps what stands of the lines, whatever memory is away.
abbrev pub EventsKeepLines : Type 0
EventsKeepLines =
    (d : MachineDesc) (inputs now : List LineInput) (f g : FlatState) (commits : ℕ → ℕ) (m : Machine) (e : Event) →
    IsDescription d → IsReached d f → Allowed d m e → Stands d m → Brings d e inputs now → EventIsKnown d f g commits m e → LinesStand d inputs f m →
    LinesStand d now g (happens d m e)
