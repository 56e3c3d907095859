-- A recovery copies what was committed from the copies that hold it.
use Rattle.std.specs.Prelude.{◌≡◌, ℕ, ◌+◌, Bool, true, nat_le, length}
use Rattle.seq_words.specs.declared.description.MachineDesc.{MachineDesc}
use Rattle.seq_layout.specs.Shapes.{shape_of}
use Rattle.seq_layout.specs.Copies.{serves}
use Rattle.seq_recover.specs.declared.recovery.Copying as copying_stage
use Rattle.seq_recover.specs.declared.recovery.Recovery.{Recovery}
use Rattle.seq_turns.specs.declared.hand.RecoveryAt.TheVariants as recovery
use Rattle.seq_turns.specs.declared.hand.Hand.TheVariants as hand
use Rattle.seq_turns.specs.Machines.{Machine, copies_after}
use Rattle.seq_recover.specs.Reading.{recovered_blocks}
use Rattle.seq_turns.specs.Recoveries.{copying_move}
use Rattle.seq_invariant.specs.BlockAreas.{left_area, Rests}
use Rattle.seq_invariant.specs.BlockWorks.{Committed, committed_blocks}
use Rattle.seq_invariant.specs.BlockHands.{HandKnows}
use Rattle.seq_invariant.specs.BlockLeft.{LeftKnows}
use Rattle.seq_invariant.specs.BlockStanding.{AreBlocks}
use Rattle.seq_invariant.specs.BlockTurns.{AfterMove}

-- What a turn of the copying leaves: the copies from which it copies hold what they held, and its hand knows one block more.
-- After its last turn each extent of the process is at rest.
pub record CopiesOn (d : MachineDesc) (at : Committed) (m : Machine) (p : ℕ) (r : Recovery copying_stage.Copying) : Type 0 where
  pub left : LeftKnows d at (copies_after (copying_move d m p r).change m.copies) r.pid.0 r.forward
  pub knows : AfterMove d at m (copying_move d m p r)
  pub rests : nat_le (length (recovered_blocks d m.copies r.pid.0)) (r.cursor + 1) ≡ true → (e : ℕ) → left_area d m.copies r.pid.0 e ≡ true →
      Rests (shape_of d) (copies_after (copying_move d m p r).change m.copies) (committed_blocks d at) e

-- That is so while every copy in its area is in service.
abbrev pub CopyingKeeps : Type 0
CopyingKeeps =
    (d : MachineDesc) (at : Committed) (m : Machine) (p : ℕ) (r : Recovery copying_stage.Copying) →
    ((e : ℕ) (shadow : Bool) → left_area d m.copies r.pid.0 e ≡ true → serves (shape_of d) m.copies e shadow ≡ true) → AreBlocks d m.copies →
    LeftKnows d at m.copies r.pid.0 r.forward → HandKnows d at m.copies (m.cache p) (hand.Recovering (recovery.Copying r)) → CopiesOn d at m p r
