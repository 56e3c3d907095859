-- Which processors are amid an operation.
use Rattle.std.specs.Prelude.{◌≡◌, ℕ, ◌<◌, Bool, false, List, length, slice_index_or}
use Rattle.seq_words.specs.declared.description.MachineDesc.{MachineDesc}
use Rattle.seq_turns.specs.Machines.{Machine}
use Rattle.seq_turns.specs.Reading.{is_amid}

-- processor p is marked
abbrev pub is_marked : List Bool → ℕ → Bool
is_marked hands p = slice_index_or hands p false

-- each processor of the machine has its entry, which marks it exactly where it is amid an operation
pub record ShowAmid (d : MachineDesc) (m : Machine) (hands : List Bool) : Type 0 where
  pub count : length hands ≡ d.processors
  pub each : (p : ℕ) → p < d.processors → is_marked hands p ≡ is_amid (m.hand p)
