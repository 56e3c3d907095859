-- A step of the flat machine that a turn takes.
use Rattle.std.proofs.Common.{◌≡◌, ℕ, true, List}
use Rattle.std.specs.Prelude.{Ok}
use Rattle.seq_words.specs.Masks.{has_bit}
use Rattle.seq_words.specs.Description.{IsDescription}
use Rattle.seq_words.specs.declared.description.MachineDesc.{MachineDesc}
use Rattle.seq_isa.specs.Meaning.{call}
use Rattle.seq_flat.specs.declared.inputs.LineInput.{LineInput}
use Rattle.seq_flat.specs.declared.state.FlatState.{FlatState}
use Rattle.seq_flat.specs.State.{rights_of}
use Rattle.seq_flat.specs.Step.{outcome, step_or_wait}
use Rattle.seq_layout.specs.Copies.{Copies}
use Rattle.seq_process.specs.declared.running.Running.{Running}
use Rattle.seq_cache.specs.Changes.{Changes, IsCache}
use Rattle.seq_kernel.specs.Views.{read_by}
use Rattle.seq_kernel.specs.Turns.{Turned}
use Rattle.seq_kernel.specs.Calls.{lines_of, call_of}
use Rattle.seq_kernel.specs.Steps.{step_of}
use Rattle.seq_kernel.specs.Bounds.{IsRunning, AreReadable}
use Rattle.seq_flat.specs.Reached.{IsFlat}
use Rattle.seq_kernel.specs.Shown.{Shows, HoldsInput}
use Rattle.seq_kernel.specs.Refinement.{takes_step}

-- the flat machine takes this step of the process, and the running process shows it
pub record Taken (d : MachineDesc) (inputs : List LineInput) (f : FlatState) (p : Copies) (pid : ℕ) (after : Turned) : Type 0 where
  pub state : FlatState
  pub step : step_or_wait (rights_of d) inputs f pid ≡ Ok state
  pub flat : IsFlat d state
  pub shows : Shows d state (read_by d p after.cache) after.running

-- every turn that takes a step takes such a one
abbrev pub TurnsTake : Type 0
TurnsTake =
    (d : MachineDesc) (inputs : List LineInput) (f : FlatState) (p : Copies) (r : Running) (c : Changes) →
    IsDescription d → AreReadable d p → IsRunning d r → IsCache c → IsFlat d f → Shows d f (read_by d p c) r → ((l : ℕ) → has_bit (lines_of d r) l ≡ true → HoldsInput d p inputs l) →
    takes_step (step_of d p r c).outcome → Taken d inputs f p r.pid.0 (step_of d p r c)

-- so does every kernel call
abbrev pub CallsTake : Type 0
CallsTake =
    (d : MachineDesc) (inputs : List LineInput) (f : FlatState) (p : Copies) (r : Running) (c : Changes) →
    IsDescription d → AreReadable d p → IsRunning d r → IsCache c → IsFlat d f → Shows d f (read_by d p c) r → ((l : ℕ) → has_bit (lines_of d r) l ≡ true → HoldsInput d p inputs l) →
    outcome f r.pid.0 ≡ call → takes_step (call_of d p r c).outcome → Taken d inputs f p r.pid.0 (call_of d p r c)
