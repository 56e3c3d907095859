-- Laws of every run, over every description, all inputs and every history.
use Rattle.std.specs.Prelude.{◌≡◌, ℕ, true, Some, Ok, List, ◌++◌}
use Rattle.std.specs.Option.{option_and_then}
use Rattle.seq_words.specs.declared.description.MachineDesc.{MachineDesc}
use Rattle.seq_words.specs.declared.events.Entry.{Entry}
use Rattle.seq_flat.specs.declared.inputs.LineInput.{LineInput}
use Rattle.seq_flat.specs.declared.state.FlatState.{FlatState}
use Rattle.seq_flat.specs.declared.state.Rights.{Rights}
use Rattle.seq_flat.specs.State.{input_at}
use Rattle.seq_flat.specs.Step.{step_or_wait}
use Rattle.seq_flat.specs.Run.{run_from, flat_run, output, IsPrefix}

-- A line has at least the input that it had: what was there comes first, and a line that was closed is as it was.
pub record HasMore (before now : LineInput) : Type 0 where
  pub begins : IsPrefix before.bytes now.bytes
  pub closed : before.closed ≡ true → now ≡ before

-- each line has at least the input that it had
pub record MoreInput (before now : List LineInput) : Type 0 where
  pub line : (l : ℕ) → HasMore (input_at before l) (input_at now l)

-- with more input, every step that could be made leads to the same state
abbrev pub InputKeepsSteps : Type 0
InputKeepsSteps = (rights : List Rights) (before now : List LineInput) (f g : FlatState) (p : ℕ) → MoreInput before now → step_or_wait rights before f p ≡ Ok g → step_or_wait rights now f p ≡ Ok g

-- with more input, every run that is defined leads to the same state
abbrev pub InputKeepsRuns : Type 0
InputKeepsRuns = (d : MachineDesc) (before now : List LineInput) (history : List Entry) (f : FlatState) → MoreInput before now → flat_run d before history ≡ Some f → flat_run d now history ≡ Some f

-- each line has put out what it had, and maybe more
pub record KeepsOutput (f g : FlatState) : Type 0 where
  pub line : (l : ℕ) → IsPrefix (output f l) (output g l)

-- a step only adds to what was put out
abbrev pub StepsAddOutput : Type 0
StepsAddOutput = (rights : List Rights) (inputs : List LineInput) (f g : FlatState) (p : ℕ) → step_or_wait rights inputs f p ≡ Ok g → KeepsOutput f g

-- a run only adds to what was put out
abbrev pub RunsAddOutput : Type 0
RunsAddOutput = (d : MachineDesc) (inputs : List LineInput) (history : List Entry) (f g : FlatState) → run_from d inputs f history ≡ Some g → KeepsOutput f g

-- a run along two histories is one along the first, and one along the second from where that ends
abbrev pub RunsGoOn : Type 0
RunsGoOn = (d : MachineDesc) (inputs : List LineInput) (first second : List Entry) (f : FlatState) → run_from d inputs f (first ++ second) ≡ option_and_then (λ g. run_from d inputs g second) (run_from d inputs f first)
