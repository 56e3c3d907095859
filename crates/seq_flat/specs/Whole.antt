-- What holds of every state that is reached.
use Rattle.std.specs.Prelude.{◌≡◌, ℕ, ◌<◌, ◌%◌, length}
use Rattle.seq_flat.specs.declared.state.FlatState.{FlatState}
use Rattle.seq_flat.specs.State.{process_at}

-- every pc is a multiple of four, and sixteen lines are kept
pub record IsWhole (f : FlatState) : Type 0 where
  pub aligned : (p : ℕ) → p < length f.processes → (process_at f p).regs.pc % 4 ≡ 0
  pub lines : length f.lines ≡ 16
