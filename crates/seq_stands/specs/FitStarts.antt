-- The machine of a description fits at its start.
use Rattle.std.specs.Prelude.{ℕ}
use Rattle.seq_words.specs.Description.{IsDescription}
use Rattle.seq_words.specs.declared.description.MachineDesc.{MachineDesc}
use Rattle.seq_flat.specs.declared.state.FlatState.{FlatState}
use Rattle.seq_flat.specs.State.{start as flat_start}
use Rattle.seq_flat.specs.Reached.{IsReached}
use Rattle.seq_image.specs.Images.{image}
use Rattle.seq_image.specs.Begun.{no_commits}
use Rattle.seq_turns.specs.Start.{start}
use Rattle.seq_stands.specs.Fit.{ImageFits, Fit}
use Rattle.seq_stands.specs.FitNumbers.{NumbersBelow}

-- the image of every flat state that a run reaches fits
abbrev pub ImagesFit : Type 0
ImagesFit = (d : MachineDesc) (f : FlatState) (commits : ℕ → ℕ) → IsDescription d → IsReached d f → ImageFits d (image d f commits)

-- and so does the machine at its start, with the image of the flat start
abbrev pub MachinesStartFit : Type 0
MachinesStartFit = (d : MachineDesc) → IsDescription d → Fit d (start d (image d (flat_start d) no_commits))

-- where no processor has stopped, and nothing is committed
abbrev pub MachinesStartAtZero : Type 0
MachinesStartAtZero = (d : MachineDesc) → IsDescription d → NumbersBelow 1 d (start d (image d (flat_start d) no_commits))
