-- A memory comes back into service, while nobody is amid an operation.
use Rattle.std.specs.Prelude.{◌≡◌, ◌⊎◌, ℕ, Bool, true, false, not}
use Rattle.seq_words.specs.declared.description.MachineDesc.{MachineDesc}
use Rattle.seq_layout.specs.Shapes.{shape_of}
use Rattle.seq_layout.specs.Copies.{Copies, serves}
use Rattle.seq_turns.specs.Machines.{Machine}
use Rattle.seq_turns.specs.Reading.{is_amid}
use Rattle.seq_invariant.specs.BlockWorks.{Committed}
use Rattle.seq_invariant.specs.BlockLeft.{IsLeft}
use Rattle.seq_invariant.specs.BlockStanding.{AreBlocks, BlocksStand}

-- each copy in service now was so before and holds what it held, or it holds what the other copy held, which was in service
pub record ComeFrom (d : MachineDesc) (before now : Copies) : Type 0 where
  pub each : (e n : ℕ) (shadow : Bool) → serves (shape_of d) now e shadow ≡ true →
      ((serves (shape_of d) before e shadow ≡ true) × (now.block e n shadow ≡ before.block e n shadow)) ⊎
      ((serves (shape_of d) before e (not shadow) ≡ true) × (now.block e n shadow ≡ before.block e n (not shadow)))

-- no processor is amid an operation, and no process is left
pub record IsCalm (d : MachineDesc) (m : Machine) : Type 0 where
  pub hands : (p : ℕ) → is_amid (m.hand p) ≡ false
  pub left : (q : ℕ) (forward : Bool) → IsLeft d m q forward → ⊥

-- the machine with these copies
abbrev pub with_copies : Machine → Copies → Machine
with_copies m now = record m { copies = now }

abbrev pub ServiceKeepsBlocks : Type 0
ServiceKeepsBlocks =
    (d : MachineDesc) (at : Committed) (m : Machine) (now : Copies) →
    IsCalm d m → IsCalm d (with_copies m now) → AreBlocks d now → ComeFrom d m.copies now → BlocksStand d at m → BlocksStand d at (with_copies m now)
