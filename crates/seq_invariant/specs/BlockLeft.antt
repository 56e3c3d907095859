-- A process whose processor stopped amid a flush or a recovery: one kind of its copies holds what was committed.
use Rattle.std.specs.Prelude.{◌≡◌, ◌⊎◌, ℕ, ◌<◌, length, Bool, true, false, not, Option, Some, None}
use Rattle.seq_words.specs.declared.description.MachineDesc.{MachineDesc}
use Rattle.seq_layout.specs.Shapes.{shape_of}
use Rattle.seq_layout.specs.Copies.{Copies}
use Rattle.seq_status.specs.declared.status.Status.{Status}
use Rattle.seq_status.specs.declared.status.Status.TheVariants.{Idle, Run, Pass1, Pass2, Back, Forward}
use Rattle.seq_image.specs.Areas.{CopyHolds}
use Rattle.seq_turns.specs.declared.hand.Hand.TheVariants as hand
use Rattle.seq_turns.specs.declared.hand.RecoveryAt.{RecoveryAt}
use Rattle.seq_turns.specs.declared.hand.RecoveryAt.TheVariants as recovery
use Rattle.seq_turns.specs.Reading.{ruling, is_deserted}
use Rattle.seq_turns.specs.Machines.{Machine}
use Rattle.seq_invariant.specs.BlockAreas.{left_area}
use Rattle.seq_invariant.specs.BlockWorks.{Committed, committed_blocks}

-- which way a process of this status is recovered, where its copies may differ: forward after a commit, else back
abbrev pub way_of : Status → Option Bool
way_of Idle = None
way_of (Run h) = None
way_of (Pass1 h) = Some false
way_of (Pass2 h) = Some true
way_of (Back h) = Some false
way_of (Forward h) = Some true

-- a recovery of process q, this way, has still to copy
abbrev pub HasToCopy : RecoveryAt → ℕ → Bool → Type 0
HasToCopy (recovery.Claimed r) q forward = (r.pid.0 ≡ q) × (r.forward ≡ forward)
HasToCopy (recovery.Copying r) q forward = (r.pid.0 ≡ q) × (r.forward ≡ forward)
HasToCopy (recovery.Locks r) q forward = ⊥
HasToCopy (recovery.Closing r) q forward = ⊥

-- its ruling word names a holder that isn't live
pub record IsDeserted (d : MachineDesc) (m : Machine) (q : ℕ) (forward : Bool) : Type 0 where
  pub inside : q < length d.processes
  pub deserted : is_deserted m.incarnation (ruling d m.copies q) ≡ true
  pub way : way_of (ruling d m.copies q) ≡ Some forward

-- a processor recovers it
pub record IsRecovered (d : MachineDesc) (m : Machine) (q : ℕ) (forward : Bool) : Type 0 where
  pub inside : q < length d.processes
  pub processor : ℕ
  pub at : RecoveryAt
  pub hand : m.hand processor ≡ hand.Recovering at
  pub copies : HasToCopy at q forward

-- process q was left, and is to be recovered this way
abbrev pub IsLeft : MachineDesc → Machine → ℕ → Bool → Type 0
IsLeft d m q forward = IsDeserted d m q forward ⊎ IsRecovered d m q forward

-- the copies from which it is recovered: the primaries forward, the shadows back
abbrev pub LeftKnows : MachineDesc → Committed → Copies → ℕ → Bool → Type 0
LeftKnows d at p q forward = CopyHolds (shape_of d) p (not forward) (left_area d p q) (committed_blocks d at)
