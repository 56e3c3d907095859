-- A processor stops, or a memory fails.
use Rattle.std.specs.Prelude.{◌≡◌, ◌⊎◌, ℕ, Bool, true, false}
use Rattle.seq_words.specs.declared.description.MachineDesc.{MachineDesc}
use Rattle.seq_turns.specs.declared.hand.Hand.{Hand}
use Rattle.seq_turns.specs.declared.hand.Hand.TheVariants as hand
use Rattle.seq_turns.specs.declared.hand.FlushAt.{FlushAt}
use Rattle.seq_turns.specs.declared.hand.FlushAt.TheVariants as flush
use Rattle.seq_turns.specs.Machines.{Machine}
use Rattle.seq_turns.specs.Events.{stopped, lost_copies}
use Rattle.seq_invariant.specs.BlockAreas.{hand_area, left_area}
use Rattle.seq_invariant.specs.BlockWorks.{Committed}
use Rattle.seq_invariant.specs.BlockLeft.{IsLeft}
use Rattle.seq_invariant.specs.BlockStanding.{IsInHand, IsInLeft, BlocksStand}

-- the way in which a process is recovered that is left amid its flush
abbrev pub GoesWay : FlushAt → Bool → Type 0
GoesWay (flush.Mark f) forward = forward ≡ false
GoesWay (flush.First f) forward = forward ≡ false
GoesWay (flush.Second f) forward = forward ≡ true
GoesWay (flush.Close f) forward = forward ≡ true

-- the copies of its area may differ
abbrev pub MayDiffer : FlushAt → Type 0
MayDiffer (flush.Mark f) = ⊥
MayDiffer (flush.First f) = Unit {0}
MayDiffer (flush.Second f) = Unit {0}
MayDiffer (flush.Close f) = ⊥

-- in this extent neither a hand nor a recovery has anything to do
pub record IsFree (d : MachineDesc) (m : Machine) (e : ℕ) : Type 0 where
  pub hand : IsInHand d m e → ⊥
  pub left : IsInLeft d m e → ⊥

-- Process q is left by a processor with this hand: amid its flush, with all extents of the process in its area; or amid its
-- recovery, once all was copied.
abbrev pub IsLeftBy : MachineDesc → Machine → ℕ → Bool → Hand → Type 0
IsLeftBy d m q forward hand.Down = ⊥
IsLeftBy d m q forward hand.Seek = ⊥
IsLeftBy d m q forward (hand.Claiming x k) = ⊥
IsLeftBy d m q forward (hand.Running r) = ⊥
IsLeftBy d m q forward (hand.Acquiring r t k) = ⊥
IsLeftBy d m q forward (hand.Flushing r why mask f) = (r.pid.0 ≡ q) × GoesWay f forward × ((e : ℕ) → left_area d m.copies q e ≡ true → hand_area d (hand.Flushing r why mask f) e ≡ true)
IsLeftBy d m q forward (hand.Unlocking r why mask l) = ⊥
IsLeftBy d m q forward (hand.Leaving x l) = ⊥
IsLeftBy d m q forward (hand.Recovering x) = (e : ℕ) → left_area d m.copies q e ≡ true → IsFree d m e

-- a flush that is left amid a pass leaves its process, with all its extents
abbrev pub Leaves : MachineDesc → Machine → Machine → Hand → Type 0
Leaves d m n (hand.Flushing r why mask f) =
    MayDiffer f → (forward : Bool) → GoesWay f forward → IsLeft d n r.pid.0 forward × ((e : ℕ) → hand_area d (hand.Flushing r why mask f) e ≡ true → left_area d m.copies r.pid.0 e ≡ true)
Leaves d m n hand.Down = Unit {0}
Leaves d m n hand.Seek = Unit {0}
Leaves d m n (hand.Claiming x k) = Unit {0}
Leaves d m n (hand.Running r) = Unit {0}
Leaves d m n (hand.Acquiring r t k) = Unit {0}
Leaves d m n (hand.Unlocking r why mask l) = Unit {0}
Leaves d m n (hand.Leaving x l) = Unit {0}
Leaves d m n (hand.Recovering x) = Unit {0}

-- What is known of words where processor p stops: who was left is left still, and who is left then was so or is left by p.
pub record IsStop (d : MachineDesc) (m : Machine) (p : ℕ) : Type 0 where
  pub still : (q : ℕ) (forward : Bool) → IsLeft d m q forward → IsLeft d (stopped m p) q forward
  pub newly : (q : ℕ) (forward : Bool) → IsLeft d (stopped m p) q forward → IsLeft d m q forward ⊎ IsLeftBy d m q forward (m.hand p)
  pub leaves : Leaves d m (stopped m p) (m.hand p)

abbrev pub StopsKeepBlocks : Type 0
StopsKeepBlocks = (d : MachineDesc) (at : Committed) (m : Machine) (p : ℕ) → IsStop d m p → BlocksStand d at m → BlocksStand d at (stopped m p)

-- the machine once memory i has failed
abbrev pub with_loss : MachineDesc → Machine → ℕ → Machine
with_loss d m i = record m { copies = lost_copies d i m.copies }

-- A memory fails while no process is left: its copies fall away.
abbrev pub LossesKeepBlocks : Type 0
LossesKeepBlocks =
    (d : MachineDesc) (at : Committed) (m : Machine) (i : ℕ) →
    ((q : ℕ) (forward : Bool) → IsLeft d m q forward → ⊥) → ((q : ℕ) (forward : Bool) → IsLeft d (with_loss d m i) q forward → ⊥) →
    BlocksStand d at m → BlocksStand d at (with_loss d m i)
