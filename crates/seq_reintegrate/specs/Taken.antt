-- A unit is taken from its other copy, on any machine with so many memories.
use Rattle.std.specs.Prelude.{ℕ, not, Option, Some, None}
use Rattle.seq_layout.specs.Copies.{Copies}
use Rattle.seq_layout.specs.Units.{copy_on}
use Rattle.seq_layout.specs.declared.units.Unit.{Unit}
use Rattle.seq_layout.specs.declared.units.Unit.TheVariants.{Block, Word}
use Rattle.seq_io.specs.Changes.{Change}
use Rattle.seq_io.specs.Changes.Change.{Unchanged, To_block, To_word}

-- a unit of memory i is taken from the other copy
abbrev pub taken_from : ℕ → Copies → ℕ → Unit → Change
taken_from memories p i (Block e n) = To_block e.0 n (copy_on memories i e.0) (p.block e.0 n (not (copy_on memories i e.0)))
taken_from memories p i (Word w) = To_word w.extent.0 w.word (copy_on memories i w.extent.0) (p.word w.extent.0 w.word (not (copy_on memories i w.extent.0)))

-- the same where there is such a unit
abbrev pub taken_next : ℕ → Copies → ℕ → Option Unit → Change
taken_next memories p i None = Unchanged
taken_next memories p i (Some u) = taken_from memories p i u
