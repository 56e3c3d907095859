-- Steps of one process in a row, which others need not know of yet.
use Rattle.std.specs.Prelude.{◌≡◌, ℕ, ◌+◌, ◌≤◌, Bool, true, List, Ok, Some}
use Rattle.seq_words.specs.declared.description.MachineDesc.{MachineDesc}
use Rattle.seq_flat.specs.declared.inputs.LineInput.{LineInput}
use Rattle.seq_flat.specs.declared.state.FlatState.{FlatState}
use Rattle.seq_flat.specs.State.{rights_of}
use Rattle.seq_flat.specs.Step.{step_or_wait}
use Rattle.seq_flat.specs.Run.{steps}
use Rattle.seq_flat.specs.Laws.{MoreInput, KeepsOutput}
use Rattle.seq_runs.specs.Areas.{HoldsWithin, Agree, OthersStay}

-- From f the process can take so many steps, which lead to g, and on the way it holds only segments of the area.
pub record IsAhead (d : MachineDesc) (inputs : List LineInput) (area : ℕ → Bool) (p n : ℕ) (f g : FlatState) : Type 0 where
  pub leads : steps d inputs p n f ≡ Some g
  pub within : (k : ℕ) (h : FlatState) → k ≤ n → steps d inputs p k f ≡ Some h → HoldsWithin area p h

-- from g the process can take as many steps, to a state that agrees with the one that it reached
pub record TakesSameSteps (d : MachineDesc) (inputs : List LineInput) (area : ℕ → Bool) (p n : ℕ) (reached g : FlatState) : Type 0 where
  pub state : FlatState
  pub ahead : IsAhead d inputs area p n g state
  pub agree : Agree (rights_of d) area p reached state
  pub others : OthersStay (rights_of d) area p g state

-- the steps from f to g change nothing of others, and are taken from every state that agrees with f
pub record AreLocal (d : MachineDesc) (inputs : List LineInput) (area : ℕ → Bool) (p n : ℕ) (f g : FlatState) : Type 0 where
  pub others : OthersStay (rights_of d) area p f g
  pub anywhere : (h : FlatState) → Agree (rights_of d) area p f h → HoldsWithin area p h → TakesSameSteps d inputs area p n g h

-- steps of a process that holds only segments of its area on the way are local
abbrev pub ManyStepsAreLocal : Type 0
ManyStepsAreLocal =
    (d : MachineDesc) (inputs : List LineInput) (area : ℕ → Bool) (p n : ℕ) (f g : FlatState) →
    IsAhead d inputs area p n f g → AreLocal d inputs area p n f g

-- any steps are ahead in the area of all segments
abbrev pub AllSegmentsAreEnough : Type 0
AllSegmentsAreEnough = (d : MachineDesc) (inputs : List LineInput) (p n : ℕ) (f g : FlatState) → steps d inputs p n f ≡ Some g → IsAhead d inputs (λ s. true) p n f g

-- no step yet
abbrev pub StartsAhead : Type 0
StartsAhead = (d : MachineDesc) (inputs : List LineInput) (area : ℕ → Bool) (p : ℕ) (f : FlatState) → HoldsWithin area p f → IsAhead d inputs area p 0 f f

-- one step more
abbrev pub GoesAhead : Type 0
GoesAhead =
    (d : MachineDesc) (inputs : List LineInput) (area : ℕ → Bool) (p n : ℕ) (f g h : FlatState) →
    IsAhead d inputs area p n f g → step_or_wait (rights_of d) inputs g p ≡ Ok h → HoldsWithin area p h → IsAhead d inputs area p (n + 1) f h

-- an area with more segments
abbrev pub AreaGrows : Type 0
AreaGrows =
    (d : MachineDesc) (inputs : List LineInput) (area wider : ℕ → Bool) (p n : ℕ) (f g : FlatState) →
    ((s : ℕ) → area s ≡ true → wider s ≡ true) → IsAhead d inputs area p n f g → IsAhead d inputs wider p n f g

-- more input
abbrev pub InputKeepsAhead : Type 0
InputKeepsAhead =
    (d : MachineDesc) (before now : List LineInput) (area : ℕ → Bool) (p n : ℕ) (f g : FlatState) →
    MoreInput before now → IsAhead d before area p n f g → IsAhead d now area p n f g

-- many steps only add to what was put out
abbrev pub ManyStepsAddOutput : Type 0
ManyStepsAddOutput = (d : MachineDesc) (inputs : List LineInput) (p n : ℕ) (f g : FlatState) → steps d inputs p n f ≡ Some g → KeepsOutput f g
