-- What a turn of a recovery needs of the recovery and of the memories.
use Rattle.std.specs.Prelude.{ℕ, ◌*◌, ◌^◌, ◌<◌, ◌≤◌, length, map, sum}
use Rattle.std.specs.List.{range_with_len}
use Rattle.seq_words.specs.declared.description.MachineDesc.{MachineDesc}
use Rattle.seq_layout.specs.Shapes.{shape_of, blocks_of}
use Rattle.seq_layout.specs.Copies.{Copies, IsServed, first_block}
use Rattle.seq_layout.specs.Contexts.{IsContextBlocks}
use Rattle.seq_recover.specs.declared.recovery.Claimed.{Claimed}
use Rattle.seq_recover.specs.declared.recovery.Copying.{Copying}
use Rattle.seq_recover.specs.declared.recovery.Locks.{Locks}
use Rattle.seq_recover.specs.declared.recovery.Closing.{Closing}
use Rattle.seq_recover.specs.declared.recovery.Recovery.{Recovery}

-- The context of process q may be read: it stands at a copy in service, inside the format.
pub record HasContext (d : MachineDesc) (p : Copies) (q : ℕ) : Type 0 where
  pub served : IsServed (shape_of d) p q
  pub inside : IsContextBlocks (map (first_block (shape_of d) p q) (range_with_len 0 8))

-- Claimed: the process is there, and its holder may be written
pub record ClaimedNeeds (d : MachineDesc) (r : Recovery Claimed) : Type 0 where
  pub process : r.pid.0 < length d.processes
  pub incarnation : r.holder.incarnation < 2 ^ 48

-- Copying: no more turns were taken than there are blocks
pub record CopyingNeeds (d : MachineDesc) (r : Recovery Copying) : Type 0 where
  pub process : r.pid.0 < length d.processes
  pub cursor : r.cursor ≤ sum (blocks_of d)

-- Locks: the cursor is at most behind the last lock word, and the context says which segments the process holds
pub record LocksNeeds (d : MachineDesc) (p : Copies) (r : Recovery Locks) : Type 0 where
  pub process : r.pid.0 < length d.processes
  pub cursor : r.cursor ≤ 2 * length d.segments
  pub context : HasContext d p r.pid.0

-- Closing: the process is there
pub record ClosingNeeds (d : MachineDesc) (r : Recovery Closing) : Type 0 where
  pub process : r.pid.0 < length d.processes
