-- What a step of the flat machine makes of segments.
use Rattle.std.specs.Prelude.{◌≡◌, ◌⊎◌, ℕ, List, Ok}
use Rattle.seq_flat.specs.declared.inputs.LineInput.{LineInput}
use Rattle.seq_flat.specs.declared.state.FlatState.{FlatState}
use Rattle.seq_flat.specs.declared.state.Rights.{Rights}
use Rattle.seq_flat.specs.State.{segment_at}
use Rattle.seq_flat.specs.Step.{step_or_wait}

-- A segment whose bytes a step of the flat machine changes keeps its owner.
pub record ChangesBytesOrOwner (f g : FlatState) : Type 0 where
  pub segment : (t : ℕ) → ((segment_at g t).bytes ≡ (segment_at f t).bytes) ⊎ ((segment_at g t).owner ≡ (segment_at f t).owner)

abbrev pub StepsChangeBytesOrOwner : Type 0
StepsChangeBytesOrOwner = (rights : List Rights) (inputs : List LineInput) (f g : FlatState) (p : ℕ) → step_or_wait rights inputs f p ≡ Ok g → ChangesBytesOrOwner f g
