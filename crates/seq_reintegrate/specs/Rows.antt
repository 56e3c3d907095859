-- The copying of a unit beside the row of the machine's table.
use Rattle.std.specs.Prelude.{◌≡◌, ℕ}
use Rattle.seq_words.specs.declared.description.MachineDesc.{MachineDesc}
use Rattle.seq_layout.specs.Copies.{Copies}
use Rattle.seq_turns.specs.Machines.{Machine}
use Rattle.seq_turns.specs.Recoveries.{unit_copied}

-- a machine whose memories hold this
abbrev pub holding : Copies → Machine → Machine
holding p m = record m { copies = p }

-- What the memories held and hold is what the table's row that copies a unit of memory i makes of it, in any machine whose memories
-- held this.
abbrev pub IsUnitCopied : MachineDesc → Copies → Copies → ℕ → Type 0
IsUnitCopied d before after i = (m : Machine) → holding after m ≡ unit_copied d (holding before m) i
