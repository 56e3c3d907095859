-- Events that may be made one after the other.
use Rattle.std.specs.Prelude.{◌≡◌, ℕ, ◌+◌, ◌^◌, ◌≤◌, Bool, List, [], ◌∷◌, None}
use Rattle.seq_words.specs.declared.description.MachineDesc.{MachineDesc}
use Rattle.seq_words.specs.declared.events.Event.{Event}
use Rattle.seq_shelf.specs.Told.{LineView}
use Rattle.seq_turns.specs.Machines.{Machine}
use Rattle.seq_turns.specs.Allowed.{Allowed}
use Rattle.seq_turns.specs.Events.{happens, check}
use Rattle.seq_machine.specs.declared.hardware.Hardware.{Hardware}
use Rattle.seq_machine.specs.Plain.{Outside, machine_of, IsOutside}
use Rattle.seq_machine.specs.Built.{IsBuilt}
use Rattle.seq_machine.specs.Ready.{IsReady}

-- Each of the events is built and may be made after those before it. What comes behind a machine check isn't made.
abbrev pub MayMake : MachineDesc → List Event → Machine → Type 0
MayMake d [] m = Unit {0}
MayMake d (e ∷ es) m = IsBuilt e × Allowed d m e × (check d m e ≡ None → MayMake d es (happens d m e))

-- the hardware may make them, with lines that show so much of what is outside
pub record MayMakeAll (es : List Event) (h : Hardware) (lines : List LineView) (marks : List Bool) : Type 0 where
  pub outside : Outside
  pub shown : IsOutside lines marks outside
  pub allowed : MayMake h.desc es (machine_of h outside)

-- the hardware is ready, and its numbers have room for so many events
pub record IsReadyFor (events : ℕ) (h : Hardware) : Type 0 where
  pub number : ℕ
  pub ready : IsReady number h
  pub room : number + events ≤ 2 ^ 47
