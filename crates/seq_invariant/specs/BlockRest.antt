-- The start, and extents in which nobody has anything to do.
use Rattle.std.specs.Prelude.{◌≡◌, ℕ, ◌+◌, ◌<◌, Bool, true, List, length}
use Rattle.seq_words.specs.Description.{IsDescription}
use Rattle.seq_words.specs.declared.description.MachineDesc.{MachineDesc}
use Rattle.seq_flat.specs.declared.inputs.LineInput.{LineInput}
use Rattle.seq_flat.specs.State as flat
use Rattle.seq_layout.specs.Shapes.{shape_of}
use Rattle.seq_flat.specs.Reached.{FitJournals}
use Rattle.seq_image.specs.Begun.{no_commits}
use Rattle.seq_turns.specs.Machines.{Machine}
use Rattle.seq_turns.specs.Start.{start}
use Rattle.seq_invariant.specs.BlockAreas.{BothHold}
use Rattle.seq_invariant.specs.BlockWorks.{Committed, committed_blocks}
use Rattle.seq_invariant.specs.BlockStanding.{BlocksStand}
use Rattle.seq_invariant.specs.BlockStops.{IsFree}

-- what is committed at the start
abbrev pub at_start : MachineDesc → List LineInput → Committed
at_start d inputs = record { inputs = inputs; state = flat.start d; commits = no_commits }

abbrev pub StartStands : Type 0
StartStands =
    (d : MachineDesc) (inputs : List LineInput) → IsDescription d → FitJournals d inputs → BlocksStand d (at_start d inputs) (start d (committed_blocks d (at_start d inputs)))

-- Where nobody has anything to do in an area, both copies there hold what was committed.
abbrev pub FreeAreasHold : Type 0
FreeAreasHold =
    (d : MachineDesc) (at : Committed) (m : Machine) (area : ℕ → Bool) → BlocksStand d at m →
    ((e : ℕ) → area e ≡ true → (e < length d.processes + length d.segments) × IsFree d m e) → BothHold (shape_of d) m.copies area (committed_blocks d at)
