-- One turn on the hardware is one step of the flat machine, wherever it takes a step.
use Rattle.std.specs.Prelude.{◌≡◌, ℕ, ◌<◌, true, false, List, length, Ok, None}
use Rattle.seq_words.specs.Masks.{has_bit}
use Rattle.seq_words.specs.Description.{IsDescription, process_of}
use Rattle.seq_words.specs.declared.description.MachineDesc.{MachineDesc}
use Rattle.seq_isa.specs.Meaning.{call, register}
use Rattle.seq_flat.specs.declared.inputs.LineInput.{LineInput}
use Rattle.seq_flat.specs.declared.state.FlatState.{FlatState}
use Rattle.seq_flat.specs.State.{segment_at, rights_of}
use Rattle.seq_flat.specs.Step.{outcome, step_or_wait}
use Rattle.seq_pair.specs.Turns.{unstruck}
use Rattle.seq_layout.specs.Shapes.{shape_of, segment_extent}
use Rattle.seq_layout.specs.Copies.{Copies}
use Rattle.seq_process.specs.declared.running.Running.{Running}
use Rattle.seq_cache.specs.Changes.{Changes, IsCache}
use Rattle.seq_kernel.specs.declared.outcomes.Outcome.{Outcome}
use Rattle.seq_kernel.specs.declared.outcomes.Outcome.TheVariants.{Done, Claim, NeedsFlush, Waits, Diverged}
use Rattle.seq_kernel.specs.declared.outcomes.Cause.TheVariants as cause
use Rattle.seq_kernel.specs.Views.{Blocks, read_by}
use Rattle.seq_kernel.specs.Calls.{lines_of, granted}
use Rattle.seq_kernel.specs.Steps.{step_of}
use Rattle.seq_kernel.specs.Bounds.{IsRunning, AreReadable}
use Rattle.seq_flat.specs.Reached.{IsFlat}
use Rattle.seq_kernel.specs.Shown.{Shows, HoldsInput, HoldBytes}

-- a turn of this outcome takes a step
abbrev pub takes_step : Outcome → Type 0
takes_step Done = Unit {0}
takes_step (Claim t) = ⊥
takes_step (NeedsFlush cause.Room) = ⊥
takes_step (NeedsFlush c) = Unit {0}
takes_step (Waits reason) = ⊥
takes_step Diverged = ⊥

-- The flat machine takes this step of a process, which a running process `after` it shows over these blocks. They have the bytes
-- of each segment that it held before, also where it has given the segment up.
pub record TakesStep (d : MachineDesc) (inputs : List LineInput) (f : FlatState) (r : Running) (o : Blocks) (after : Running) : Type 0 where
  pub state : FlatState
  pub step : step_or_wait (rights_of d) inputs f r.pid.0 ≡ Ok state
  pub flat : IsFlat d state
  pub shows : Shows d state o after
  pub bytes : (t : ℕ) → t < length d.segments → has_bit r.held t ≡ true → HoldBytes o (segment_extent (shape_of d) t) 0 (segment_at state t).bytes

-- Wherever a turn takes a step, it is the flat machine's.
abbrev pub StepsAreFlat : Type 0
StepsAreFlat =
    (d : MachineDesc) (inputs : List LineInput) (f : FlatState) (p : Copies) (r : Running) (c : Changes) →
    IsDescription d → AreReadable d p → IsRunning d r → IsCache c → IsFlat d f → Shows d f (read_by d p c) r → ((l : ℕ) → has_bit (lines_of d r) l ≡ true → HoldsInput d p inputs l) →
    takes_step (step_of d p r c).outcome → TakesStep d inputs f r (read_by d p (step_of d p r c).cache) (step_of d p r c).running

-- A process that shows flat state f asks for segment t, as the half that isn't struck has it: its next instruction is an acquire
-- of it, which is granted to the process, and it holds neither this segment nor one above.
pub record AsksFor (d : MachineDesc) (f : FlatState) (r : Running) (t : ℕ) : Type 0 where
  pub calls : outcome f r.pid.0 ≡ call
  pub number : register (unstruck r.pair) 17 ≡ 1
  pub segment : register (unstruck r.pair) 10 ≡ t
  pub known : t < length d.segments
  pub granted : has_bit (process_of d r.pid.0).grants t ≡ true
  pub free : has_bit r.held t ≡ false
  pub highest : (u : ℕ) → t < u → has_bit r.held u ≡ false

-- So does each process whose turn claims a segment.
abbrev pub ClaimsAskFor : Type 0
ClaimsAskFor =
    (d : MachineDesc) (f : FlatState) (p : Copies) (r : Running) (c : Changes) (t : ℕ) →
    IsDescription d → IsRunning d r → IsFlat d f → Shows d f (read_by d p c) r → (step_of d p r c).outcome ≡ Claim (record { 0 = t }) → AsksFor d f r t

-- It asks for it in each flat state that it shows over the same blocks.
abbrev pub AsksInAllShown : Type 0
AsksInAllShown =
    (d : MachineDesc) (f g : FlatState) (o : Blocks) (r : Running) (t : ℕ) →
    IsDescription d → IsRunning d r → IsFlat d f → IsFlat d g → Shows d f o r → Shows d g o r → AsksFor d f r t → AsksFor d g r t

-- Its acquire is the flat machine's step once the lock is held, where nobody owns the segment.
abbrev pub GrantsAreFlat : Type 0
GrantsAreFlat =
    (d : MachineDesc) (inputs : List LineInput) (f : FlatState) (o : Blocks) (r : Running) (t : ℕ) →
    IsRunning d r → IsFlat d f → Shows d f o r → AsksFor d f r t →
    (segment_at f t).owner ≡ None → HoldBytes o (segment_extent (shape_of d) t) 0 (segment_at f t).bytes →
    TakesStep d inputs f r o (granted r t)
