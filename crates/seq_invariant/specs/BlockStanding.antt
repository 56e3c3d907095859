-- What stands of the blocks of a machine after every event that ends no run.
use Rattle.std.specs.Prelude.{◌≡◌, ◌⊎◌, ℕ, ◌+◌, ◌<◌, Bool, true, false, length, Some}
use Rattle.seq_words.specs.Blocks.{zero_block}
use Rattle.seq_words.specs.declared.description.MachineDesc.{MachineDesc}
use Rattle.seq_flat.specs.Run.{flat_run}
use Rattle.seq_layout.specs.Places.{is_place}
use Rattle.seq_layout.specs.Shapes.{shape_of}
use Rattle.seq_layout.specs.Copies.{Copies}
use Rattle.seq_cache.specs.Changes.{IsCache}
use Rattle.seq_runs.specs.Histories.{entry_count}
use Rattle.seq_flat.specs.Reached.{IsReached, FitJournals}
use Rattle.seq_turns.specs.Machines.{Machine}
use Rattle.seq_invariant.specs.BlockAreas.{hand_area, left_area, Rests}
use Rattle.seq_invariant.specs.BlockWorks.{Committed, committed_blocks}
use Rattle.seq_invariant.specs.BlockHands.{HandKnows}
use Rattle.seq_invariant.specs.BlockLeft.{IsLeft, LeftKnows}

-- the flat state is that of the history, and each process has as many commits as entries
pub record IsCommitted (d : MachineDesc) (at : Committed) (m : Machine) : Type 0 where
  pub run : flat_run d at.inputs m.history ≡ Some at.state
  pub commits : (q : ℕ) → at.commits q ≡ entry_count q m.history
  pub reached : IsReached d at.state
  pub fit : FitJournals d at.inputs

-- every block has its 32 bytes, and zeros stand where an extent has no such block
pub record AreBlocks (d : MachineDesc) (p : Copies) : Type 0 where
  pub whole : (e n : ℕ) (shadow : Bool) → length (p.block e n shadow).bytes ≡ 32
  pub nowhere : (e n : ℕ) (shadow : Bool) → is_place (shape_of d).blocks e n ≡ false → p.block e n shadow ≡ zero_block

-- an extent is one of those of a hand
pub record IsInHand (d : MachineDesc) (m : Machine) (e : ℕ) : Type 0 where
  pub holder : ℕ
  pub inside : hand_area d (m.hand holder) e ≡ true

-- an extent is one of those of a process that was left
pub record IsInLeft (d : MachineDesc) (m : Machine) (e : ℕ) : Type 0 where
  pub process : ℕ
  pub forward : Bool
  pub left : IsLeft d m process forward
  pub inside : left_area d m.copies process e ≡ true

-- Each extent is one of those of a hand, or of a process that was left, or else at rest: each copy in service holds what was
-- committed.
abbrev pub ExtentStands : MachineDesc → Committed → Machine → ℕ → Type 0
ExtentStands d at m e = IsInHand d m e ⊎ IsInLeft d m e ⊎ Rests (shape_of d) m.copies (committed_blocks d at) e

pub record BlocksStand (d : MachineDesc) (at : Committed) (m : Machine) : Type 0 where
  pub committed : IsCommitted d at m
  pub blocks : AreBlocks d m.copies
  pub caches : (p : ℕ) → IsCache (m.cache p)
  pub hands : (p : ℕ) → HandKnows d at m.copies (m.cache p) (m.hand p)
  pub left : (q : ℕ) (forward : Bool) → IsLeft d m q forward → LeftKnows d at m.copies q forward
  pub extents : (e : ℕ) → e < length d.processes + length d.segments → ExtentStands d at m e
