-- A run along a history, and what it has put out.
use Rattle.std.specs.Prelude.{◌≡◌, ℕ, zero, suc, Option, Some, List, [], ◌∷◌, length, take}
use Rattle.std.specs.Option.{option_and_then}
use Rattle.seq_words.specs.declared.description.MachineDesc.{MachineDesc}
use Rattle.seq_words.specs.declared.events.Entry.{Entry}
use Rattle.seq_flat.specs.declared.inputs.LineInput.{LineInput}
use Rattle.seq_flat.specs.declared.state.FlatState.{FlatState}
use Rattle.seq_flat.specs.State.{start, line_at}
use Rattle.seq_flat.specs.Step.{step}

-- so many steps of process p, each of which is enabled where it is made
unfoldable pub steps : MachineDesc → List LineInput → ℕ → ℕ → FlatState → Option FlatState
steps d inputs p zero f = Some f
steps d inputs p (suc n) f = option_and_then (λ g. steps d inputs p n g) (step d inputs f p)

-- from a state along a history
unfoldable pub run_from : MachineDesc → List LineInput → FlatState → List Entry → Option FlatState
run_from d inputs f [] = Some f
run_from d inputs f (e ∷ es) = option_and_then (λ g. run_from d inputs g es) (steps d inputs e.pid.0 e.count f)

-- The flat run along a history: defined only where every step is enabled.
abbrev pub flat_run : MachineDesc → List LineInput → List Entry → Option FlatState
flat_run d inputs history = run_from d inputs (start d) history

-- what line l has put out
abbrev pub output : FlatState → ℕ → List ℕ
output f l = (line_at f l).output

-- the first are the beginning of the others
abbrev pub IsPrefix : List ℕ → List ℕ → Type 0
IsPrefix xs ys = take (length xs) ys ≡ xs

-- The history is a flat run, and the bytes released on each line are a prefix of that line's output in it.
abbrev pub IsRight : MachineDesc → List LineInput → List Entry → (ℕ → List ℕ) → Type 0
IsRight d inputs history released = (f : FlatState) × (flat_run d inputs history ≡ Some f) × ((l : ℕ) → IsPrefix (released l) (output f l))
