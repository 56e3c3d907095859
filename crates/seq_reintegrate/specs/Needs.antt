-- What the copying of a unit needs of the memories.
use Rattle.std.specs.Prelude.{◌≡◌, ◌≢◌, ℕ, ◌<◌, true, length}
use Rattle.seq_words.specs.Description.{IsDescription}
use Rattle.seq_words.specs.declared.description.MachineDesc.{MachineDesc}
use Rattle.seq_memory.specs.States.{is_in_service, is_returning}
use Rattle.seq_memory.specs.declared.element.State.TheVariants.{Copying}
use Rattle.seq_layout.specs.Shapes.{Shape, shape_of}
use Rattle.seq_layout.specs.Copies.{Copies}
use Rattle.seq_layout.specs.Units.{units_of}

-- the shape of a machine that is described
abbrev pub IsDescribed : Shape → Type 0
IsDescribed s = (d : MachineDesc) × IsDescription d × (s ≡ shape_of d)

-- Memory i is repaired and not in service yet. The unit that it says is next is one of its units, and all other memories are in
-- service.
pub record CopyingNeeds (s : Shape) (p : Copies) (i : ℕ) : Type 0 where
  pub memory : i < s.memories
  pub returning : is_returning (p.state i) ≡ true
  pub next : (n : ℕ) → p.state i ≡ Copying n → n < length (units_of s i)
  pub others : (j : ℕ) → j < s.memories → j ≢ i → is_in_service (p.state j) ≡ true
