-- The turns of a recovery, as the table of the machine has them: two of Claimed, one of Copying for each block, in Locks one for each
-- lock word that is cleared, or a single one where none is, and two of Closing. Each turn changes one copy at most; where the copy
-- that it names isn't in service, it changes nothing and the recovery moves on.
use Rattle.std.specs.Prelude.{ℕ, ◌+◌, ◌/◌, Bool, true, false, not, ◌==◌, if◌then◌else◌, nat_le, length, slice_get, Option, Some, None}
use Rattle.seq_words.specs.declared.description.MachineDesc.{MachineDesc}
use Rattle.seq_layout.specs.Shapes.{shape_of, segment_extent}
use Rattle.seq_layout.specs.Copies.{Copies, with_word, block_written, word_written}
use Rattle.seq_status.specs.declared.status.Holder.{Holder}
use Rattle.seq_status.specs.declared.status.Status.TheVariants.{Back, Forward}
use Rattle.seq_status.specs.declared.step.Step.{Step}
use Rattle.seq_status.specs.declared.step.Step.TheVariants.{Again, Next}
use Rattle.seq_status.specs.Words.{word_of}
use Rattle.seq_recover.specs.declared.recovery.Claimed.{Claimed}
use Rattle.seq_recover.specs.declared.recovery.Copying.{Copying}
use Rattle.seq_recover.specs.declared.recovery.Locks.{Locks}
use Rattle.seq_recover.specs.declared.recovery.Closing.{Closing}
use Rattle.seq_recover.specs.declared.recovery.Recovered.{Recovered}
use Rattle.seq_recover.specs.declared.recovery.Recovery.{Recovery}
use Rattle.seq_recover.specs.Reading.{recovered_blocks, is_shadow, left_from}

-- what a turn leaves: what the memories hold, and the next state
pub record Turned (A : Type 0) : Type 0 where
  pub copies : Copies
  pub step : A

-- the status word of a process that is recovered so by this holder
abbrev pub recovery_word : Bool → Holder → ℕ
recovery_word true h = word_of (Forward h)
recovery_word false h = word_of (Back h)

-- the same recovery at the beginning of another stage
abbrev pub into_stage : {S T : Type 0} → Recovery S → T → Recovery T
into_stage r stage = record { pid = r.pid; holder = r.holder; forward = r.forward; cursor = 0; stage = stage }

-- one copy of the status word of process q is set
abbrev pub status_set : MachineDesc → Copies → ℕ → Bool → ℕ → Copies
status_set d p q shadow word = word_written (shape_of d) p q 0 shadow word

-- Claimed: the kind at the primary word, then at the shadow word
unfoldable pub claimed_turn : MachineDesc → Copies → Recovery Claimed → Turned (Step (Recovery Claimed) (Recovery Copying))
claimed_turn d p r =
    if r.cursor == 0
    then record { copies = status_set d p r.pid.0 false (recovery_word r.forward r.holder); step = Again (record r { cursor = 1 }) }
    else record { copies = status_set d p r.pid.0 true (recovery_word r.forward r.holder); step = Next (into_stage r (record {})) }

-- a block is copied to one of its copies from the other
abbrev pub block_copied : MachineDesc → Copies → Bool → Option (ℕ × ℕ) → Copies
block_copied d p to None = p
block_copied d p to (Some b) = block_written (shape_of d) p b.0 b.1 to (p.block b.0 b.1 (not to))

-- Copying: the next block, forward over its shadow, back over its primary; the turn of the last block moves on
unfoldable pub copying_turn : MachineDesc → Copies → Recovery Copying → Turned (Step (Recovery Copying) (Recovery Locks))
copying_turn d p r =
    let blocks = recovered_blocks d p r.pid.0 in
    record {
      copies = block_copied d p r.forward (slice_get blocks r.cursor);
      step = if nat_le (length blocks) (r.cursor + 1) then Next (into_stage r (record {})) else Again (record r { cursor = r.cursor + 1 });
    }

-- lock word k is cleared
abbrev pub lock_cleared : MachineDesc → Copies → ℕ → Copies
lock_cleared d p k = with_word p (segment_extent (shape_of d) (k / 2)) 0 (is_shadow k) 0

-- the cursor is behind the lock word that was cleared, unless none is left to be cleared
abbrev pub after_clearing : Recovery Locks → ℕ → Option ℕ → Step (Recovery Locks) (Recovery Closing)
after_clearing r k (Some j) = Again (record r { cursor = k + 1 })
after_clearing r k None = Next (into_stage r (record {}))

abbrev pub locks_cleared : MachineDesc → Copies → Recovery Locks → Option ℕ → Turned (Step (Recovery Locks) (Recovery Closing))
locks_cleared d p r (Some k) = record { copies = lock_cleared d p k; step = after_clearing r k (left_from d p r.pid.0 (k + 1)) }
locks_cleared d p r None = record { copies = p; step = Next (into_stage r (record {})) }

-- Locks: the next lock word is cleared that names the process and whose segment its context doesn't hold. The turn that clears the
-- last of them moves on, and so does a turn that finds none.
unfoldable pub locks_turn : MachineDesc → Copies → Recovery Locks → Turned (Step (Recovery Locks) (Recovery Closing))
locks_turn d p r = locks_cleared d p r (left_from d p r.pid.0 r.cursor)

-- Closing: Idle, which is 0, at the shadow word, then at the primary word
unfoldable pub closing_turn : MachineDesc → Copies → Recovery Closing → Turned (Step (Recovery Closing) Recovered)
closing_turn d p r =
    if r.cursor == 0
    then record { copies = status_set d p r.pid.0 true 0; step = Again (record r { cursor = 1 }) }
    else record { copies = status_set d p r.pid.0 false 0; step = Next (record {}) }
