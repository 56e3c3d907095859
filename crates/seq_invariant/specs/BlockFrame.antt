-- A turn of a processor changes what is its own: what stands of the others stays.
use Rattle.std.specs.Prelude.{◌≡◌, ◌≢◌, ◌⊎◌, ℕ, ◌+◌, ◌<◌, Bool, true, false, length}
use Rattle.seq_words.specs.declared.description.MachineDesc.{MachineDesc}
use Rattle.seq_layout.specs.Places.{IsPlace}
use Rattle.seq_layout.specs.Shapes.{shape_of}
use Rattle.seq_cache.specs.Changes.{IsCache}
use Rattle.seq_layout.specs.Copies.{Copies}
use Rattle.seq_process.specs.declared.running.Running.{Running}
use Rattle.seq_cache.specs.Changes.{Changes}
use Rattle.seq_kernel.specs.declared.outcomes.Cause.{Cause}
use Rattle.seq_turns.specs.declared.hand.Hand.{Hand}
use Rattle.seq_turns.specs.declared.hand.Hand.TheVariants as hand
use Rattle.seq_turns.specs.declared.hand.FlushAt.{FlushAt}
use Rattle.seq_turns.specs.declared.hand.FlushAt.TheVariants as flush
use Rattle.seq_turns.specs.Operations.{flush_move}
use Rattle.seq_turns.specs.Machines.{Machine, Change, Move, copies_after, after_move}
use Rattle.seq_io.specs.Changes.Change.{Unchanged, To_block, To_word}
use Rattle.seq_recover.specs.Reading.{names}
use Rattle.seq_invariant.specs.BlockAreas.{hand_area, left_area, Rests}
use Rattle.seq_invariant.specs.BlockWorks.{Committed, committed_blocks}
use Rattle.seq_invariant.specs.BlockHands.{HandKnows}
use Rattle.seq_invariant.specs.BlockLeft.{IsLeft}
use Rattle.seq_invariant.specs.BlockStanding.{IsCommitted, BlocksStand}

-- it changes a block of these extents, if any
abbrev pub IsWithin : MachineDesc → (ℕ → Bool) → Change → Type 0
IsWithin d area Unchanged = Unit {0}
IsWithin d area (To_block e n c b) = (area e ≡ true) × IsPlace (shape_of d).blocks e n × (length b.bytes ≡ 32)
IsWithin d area (To_word e n c w) = Unit {0}

-- the extents of processor p are those of no other, and of no process that was left
pub record IsApart (d : MachineDesc) (m : Machine) (p : ℕ) : Type 0 where
  pub hands : (r e : ℕ) → r ≢ p → hand_area d (m.hand p) e ≡ true → hand_area d (m.hand r) e ≡ false
  pub left : (q e : ℕ) (forward : Bool) → IsLeft d m q forward → hand_area d (m.hand p) e ≡ true → left_area d m.copies q e ≡ false

-- the same processes are left, and their areas stay
pub record KeepsLeft (d : MachineDesc) (m n : Machine) : Type 0 where
  pub before : (q : ℕ) (forward : Bool) → IsLeft d n q forward → IsLeft d m q forward
  pub still : (q : ℕ) (forward : Bool) → IsLeft d m q forward → IsLeft d n q forward
  pub names : (q t : ℕ) (forward : Bool) → IsLeft d m q forward → names d n.copies q t false ≡ names d m.copies q t false

-- What a move of processor p leaves of what others know, and of what was committed outside its extents.
pub record KeepsOthers (d : MachineDesc) (at at' : Committed) (m : Machine) (p : ℕ) : Type 0 where
  pub hands : (r : ℕ) → r ≢ p → HandKnows d at m.copies (m.cache r) (m.hand r) → HandKnows d at' m.copies (m.cache r) (m.hand r)
  pub blocks : (e n : ℕ) → e < length d.processes + length d.segments → hand_area d (m.hand p) e ≡ false → committed_blocks d at e n ≡ committed_blocks d at' e n

-- its own hand knows what it is to know, and each extent that it leaves is at rest
pub record OwnStands (d : MachineDesc) (at' : Committed) (m : Machine) (p : ℕ) (move : Move) : Type 0 where
  pub knows : HandKnows d at' (copies_after move.change m.copies) move.cache move.hand
  pub cache : IsCache move.cache
  pub rests : (e : ℕ) → hand_area d (m.hand p) e ≡ true → (hand_area d move.hand e ≡ true) ⊎ Rests (shape_of d) (copies_after move.change m.copies) (committed_blocks d at') e

-- So what stands of the blocks is kept.
abbrev pub MovesKeepBlocks : Type 0
MovesKeepBlocks =
    (d : MachineDesc) (at at' : Committed) (m : Machine) (p : ℕ) (move : Move) →
    BlocksStand d at m → IsCommitted d at' (after_move p move m) → IsWithin d (hand_area d (m.hand p)) move.change → IsApart d m p → KeepsLeft d m (after_move p move m) →
    KeepsOthers d at at' m p → OwnStands d at' m p move → BlocksStand d at' (after_move p move m)

-- What a flush writes is in its extents.
abbrev pub FlushesWriteInside : Type 0
FlushesWriteInside =
    (d : MachineDesc) (at : Committed) (m : Machine) (p : ℕ) (r : Running) (why : Cause) (mask : ℕ) (f : FlushAt) →
    HandKnows d at m.copies (m.cache p) (hand.Flushing r why mask f) → IsWithin d (hand_area d (hand.Flushing r why mask f)) (flush_move d m p r why mask f).change

-- it is amid a pass of a flush
abbrev pub IsAmidPass : Hand → Type 0
IsAmidPass (hand.Flushing r why mask (flush.Mark f)) = ⊥
IsAmidPass (hand.Flushing r why mask (flush.First f)) = Unit {0}
IsAmidPass (hand.Flushing r why mask (flush.Second f)) = Unit {0}
IsAmidPass (hand.Flushing r why mask (flush.Close f)) = ⊥
IsAmidPass hand.Down = ⊥
IsAmidPass hand.Seek = ⊥
IsAmidPass (hand.Claiming q c) = ⊥
IsAmidPass (hand.Running r) = ⊥
IsAmidPass (hand.Acquiring r t c) = ⊥
IsAmidPass (hand.Unlocking r why mask l) = ⊥
IsAmidPass (hand.Leaving q l) = ⊥
IsAmidPass (hand.Recovering x) = ⊥

-- Outside the passes, both copies of each extent of a hand hold what was committed.
abbrev pub ExtentsRest : Type 0
ExtentsRest =
    (d : MachineDesc) (at : Committed) (p : Copies) (c : Changes) (h : Hand) (e : ℕ) →
    (IsAmidPass h → ⊥) → hand_area d h e ≡ true → HandKnows d at p c h → Rests (shape_of d) p (committed_blocks d at) e
