-- A turn of a recovery beside a row of the machine's table.
use Rattle.std.specs.Prelude.{◌≡◌, ℕ}
use Rattle.seq_layout.specs.Copies.{Copies}
use Rattle.seq_turns.specs.declared.hand.Hand.{Hand}
use Rattle.seq_turns.specs.Machines.{Machine, Move, copies_after}

-- a machine whose memories hold this
abbrev pub holding : Copies → Machine → Machine
holding p m = record m { copies = p }

-- What the memories held and hold, and the hand after the turn, are those of a row of the table: of any processor of any machine
-- whose memories held this.
pub record IsRow (before after : Copies) (hand : Hand) (row : Machine → ℕ → Move) : Type 0 where
  pub hands : (m : Machine) (i : ℕ) → hand ≡ (row (holding before m) i).hand
  pub copies : (m : Machine) (i : ℕ) → after ≡ copies_after (row (holding before m) i).change before
