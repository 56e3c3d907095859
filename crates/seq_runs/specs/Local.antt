-- A step concerns its own process, the lines that this process owns and the segments that it holds, and nothing else.
use Rattle.std.specs.Prelude.{◌≡◌, ℕ, Bool, ◌||◌, List, Ok}
use Rattle.seq_flat.specs.declared.inputs.LineInput.{LineInput}
use Rattle.seq_flat.specs.declared.state.FlatState.{FlatState}
use Rattle.seq_flat.specs.declared.state.Rights.{Rights}
use Rattle.seq_flat.specs.Step.{step_or_wait}
use Rattle.seq_runs.specs.Areas.{holds, HoldsWithin, Agree, OthersStay}

-- from g the process takes its step too, to a state that agrees with the one that it reached
pub record TakesSameStep (rights : List Rights) (inputs : List LineInput) (area : ℕ → Bool) (p : ℕ) (reached g : FlatState) : Type 0 where
  pub state : FlatState
  pub step : step_or_wait rights inputs g p ≡ Ok state
  pub agree : Agree rights area p reached state
  pub within : HoldsWithin area p state
  pub others : OthersStay rights area p g state

-- the step from f to g changes nothing of others, and is taken from every state that agrees with f
pub record IsLocal (rights : List Rights) (inputs : List LineInput) (area : ℕ → Bool) (p : ℕ) (f g : FlatState) : Type 0 where
  pub others : OthersStay rights area p f g
  pub anywhere : (h : FlatState) → Agree rights area p f h → HoldsWithin area p h → TakesSameStep rights inputs area p g h

-- a step is local, where the process holds only segments of its area, before the step and after it
abbrev pub StepsAreLocal : Type 0
StepsAreLocal =
    (rights : List Rights) (inputs : List LineInput) (area : ℕ → Bool) (p : ℕ) (f g : FlatState) →
    HoldsWithin area p f → HoldsWithin area p g → step_or_wait rights inputs f p ≡ Ok g → IsLocal rights inputs area p f g

-- A step is local in the area of what the process held before it and of what it holds after it.
abbrev pub StepsUseWhatIsHeld : Type 0
StepsUseWhatIsHeld =
    (rights : List Rights) (inputs : List LineInput) (p : ℕ) (f g : FlatState) →
    step_or_wait rights inputs f p ≡ Ok g → IsLocal rights inputs (λ s. holds f p s || holds g p s) p f g
