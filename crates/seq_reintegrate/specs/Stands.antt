-- What is known of the units of a memory that is copied.
use Rattle.std.specs.Prelude.{◌≡◌, ℕ, ◌<◌, false, true, slice_get, Some}
use Rattle.seq_layout.specs.Shapes.{Shape}
use Rattle.seq_layout.specs.Copies.{Copies}
use Rattle.seq_layout.specs.Units.{units_of}
use Rattle.seq_layout.specs.declared.units.Unit.{Unit}
use Rattle.seq_layout.specs.declared.units.Unit.TheVariants.{Block, Word}
use Rattle.seq_turns.specs.Recoveries.{next_of}

-- a unit is equal on both copies
abbrev pub IsEqual : Copies → Unit → Type 0
IsEqual p (Block e n) = p.block e.0 n false ≡ p.block e.0 n true
IsEqual p (Word w) = p.word w.extent.0 w.word false ≡ p.word w.extent.0 w.word true

-- a unit is one of those of memory i below number n
abbrev pub IsBelow : Shape → ℕ → ℕ → Unit → Type 0
IsBelow s i n u = (k : ℕ) × (k < n) × (slice_get (units_of s i) k ≡ Some u)

-- the units of memory i below number n are equal on both copies
pub record AreEqualBelow (s : Shape) (p : Copies) (i n : ℕ) : Type 0 where
  pub each : (u : Unit) → IsBelow s i n u → IsEqual p u

-- While memory i is copied, the units behind its next one are equal on both copies.
abbrev pub CopyingKnows : Shape → Copies → ℕ → Type 0
CopyingKnows s p i = AreEqualBelow s p i (next_of (p.state i))

-- Once it is in service, all its units are.
pub record AllEqual (s : Shape) (p : Copies) (i : ℕ) : Type 0 where
  pub each : (k : ℕ) (u : Unit) → slice_get (units_of s i) k ≡ Some u → IsEqual p u
