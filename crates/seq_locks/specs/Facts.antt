-- What the states of a claim and of a release know of the copies that are in service.
use Rattle.std.specs.Prelude.{ℕ}
use Rattle.seq_layout.specs.declared.units.WordAt.{WordAt}
use Rattle.seq_layout.specs.Shapes.{Shape}
use Rattle.seq_layout.specs.Copies.{Copies}
use Rattle.seq_layout.specs.Held.{HoldBoth}

-- each copy in service holds this value
abbrev pub BothHold : Shape → Copies → WordAt → ℕ → Type 0
BothHold s p at value = HoldBoth s p at value value
