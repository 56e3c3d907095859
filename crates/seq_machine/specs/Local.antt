-- What a turn of an operation depends on, and which turns copy no memory.
use Rattle.std.specs.Prelude.{◌≡◌, ℕ}
use Rattle.seq_words.specs.declared.description.MachineDesc.{MachineDesc}
use Rattle.seq_layout.specs.Copies.{Copies}
use Rattle.seq_cache.specs.Changes.{Changes}
use Rattle.seq_turns.specs.declared.hand.Hand.{Hand}
use Rattle.seq_turns.specs.Machines.{Machine, Turn}
use Rattle.seq_turns.specs.Machines.Turn.{Moves, Looks, Copies_unit, Stops}
use Rattle.seq_turns.specs.Processors.{turn}
use Rattle.seq_machine.specs.Here.{here}
use Rattle.seq_machine.specs.Needs.{IsOperating}
use Rattle.seq_machine.specs.Processors.{local_turn}

-- A turn of an operation depends on what the memories hold, and on the cache and the incarnation of its own processor.
abbrev pub OperationsAreLocal : Type 0
OperationsAreLocal = (d : MachineDesc) (m : Machine) (p : ℕ) (hand : Hand) → IsOperating hand → turn d m p hand ≡ turn d (here m.copies (m.cache p) (m.incarnation p)) p hand

-- a turn moves its processor or stops it
abbrev pub IsMoveOrStop : Turn → Type 0
IsMoveOrStop (Moves move) = Unit {0}
IsMoveOrStop (Looks next move) = ⊥
IsMoveOrStop (Copies_unit memory) = ⊥
IsMoveOrStop Stops = Unit {0}

-- so does each turn of an operation
abbrev pub OperationsMoveOrStop : Type 0
OperationsMoveOrStop = (d : MachineDesc) (m : Machine) (p : ℕ) (hand : Hand) → IsOperating hand → IsMoveOrStop (turn d m p hand)

-- a turn copies no unit of a memory
abbrev pub CopiesNothing : Turn → Type 0
CopiesNothing (Moves move) = Unit {0}
CopiesNothing (Looks next move) = Unit {0}
CopiesNothing (Copies_unit memory) = ⊥
CopiesNothing Stops = Unit {0}

-- Nor does a turn of a processor by what it reads: which memory is to be copied, and whether another is amid an operation, it is the
-- hardware that looks.
abbrev pub LocalTurnsCopyNothing : Type 0
LocalTurnsCopyNothing = (d : MachineDesc) (p : Copies) (cache : Changes) (i : ℕ → ℕ) (scan pe : ℕ) (h : Hand) → CopiesNothing (local_turn d p cache i scan pe h)
