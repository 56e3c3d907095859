-- What a processor that runs a process knows of it, whatever the memories hold.
use Rattle.std.specs.Prelude.{◌≡◌, ◌≢◌, ◌<◌, length, ℕ, ◌+◌, Bool, true, false, ◌==◌, if◌then◌else◌, List, None}
use Rattle.seq_words.specs.declared.description.MachineDesc.{MachineDesc}
use Rattle.seq_flat.specs.declared.inputs.LineInput.{LineInput}
use Rattle.seq_flat.specs.declared.state.FlatState.{FlatState}
use Rattle.seq_process.specs.declared.running.Running.{Running}
use Rattle.seq_cache.specs.Changes.{Changes}
use Rattle.seq_cache.specs.declared.change.Change.{Change}
use Rattle.seq_layout.specs.Places.{IsPlace}
use Rattle.seq_layout.specs.Shapes.{shape_of}
use Rattle.seq_flush.specs.Turns.{unit_at}
use Rattle.seq_flush.specs.Facts.{AreApart, Avoid}
use Rattle.seq_kernel.specs.Views.{Blocks}
use Rattle.seq_runs.specs.Ahead as alone
use Rattle.seq_runs.specs.Areas.{holds}
use Rattle.seq_image.specs.Images.{image}
use Rattle.seq_image.specs.Areas.{AreAlike, in_area}
use Rattle.seq_flat.specs.Reached.{IsReached}
use Rattle.seq_image.specs.Flushing.{with_units}
use Rattle.seq_image.specs.Ahead.{IsAhead, emptied}

-- What was committed: the flat state along the history, with the input arrived so far, and the commits of each process.
pub record Committed : Type 0 where
  pub inputs : List LineInput
  pub state : FlatState
  pub commits : ℕ → ℕ

-- the blocks of what was committed
abbrev pub committed_blocks : MachineDesc → Committed → Blocks
committed_blocks d at = image d at.state at.commits

-- one more commit of process q
abbrev pub one_more : ℕ → (ℕ → ℕ) → ℕ → ℕ
one_more q commits p = if p == q then commits p + 1 else commits p

-- once the steps of process q to this state are committed
abbrev pub with_commit : Committed → ℕ → FlatState → Committed
with_commit at q g = record { inputs = at.inputs; state = g; commits = one_more q at.commits }

-- The process is ahead of what was committed by its steps, which it takes in its own area; its changes lie over the image. Its
-- halves hold the same, but where one was struck.
pub record Works (d : MachineDesc) (at : Committed) (segments : ℕ → Bool) (r : Running) (c : Changes) : Type 0 where
  pub ahead : IsAhead d at.inputs at.state at.commits segments r c
  pub alone : alone.IsAhead d at.inputs segments r.pid.0 r.steps at.state ahead.state
  pub reached : IsReached d ahead.state
  pub equal : r.pair.struck ≡ None → r.pair.a ≡ r.pair.b

-- The process has no uncommitted step, and no changes.
pub record Rested (d : MachineDesc) (at : Committed) (segments : ℕ → Bool) (r : Running) (c : Changes) : Type 0 where
  pub works : Works d at segments r (emptied c)
  pub none : r.steps ≡ 0

-- Units of process q: they are apart, each has a place in its area, and its 32 bytes.
pub record AreUnits (d : MachineDesc) (segments : ℕ → Bool) (q : ℕ) (us : List Change) : Type 0 where
  pub apart : AreApart us
  pub avoid : (e : ℕ) → in_area d q segments e ≡ false → Avoid us e
  pub places : (k : ℕ) → k < length us → IsPlace (shape_of d).blocks (unit_at us k).extent.0 (unit_at us k).place
  pub whole : (k : ℕ) → k < length us → length (unit_at us k).block.bytes ≡ 32

-- Over the image of what was committed, units make that of the next commit of process q.
pub record Make (d : MachineDesc) (at : Committed) (segments : ℕ → Bool) (q : ℕ) (us : List Change) (g : FlatState) : Type 0 where
  pub units : AreUnits d segments q us
  pub blocks : AreAlike (in_area d q segments) (with_units us (committed_blocks d at)) (committed_blocks d (with_commit at q g))

-- A process takes steps from what was committed, in an area in which nobody else owns a segment.
pub record Commits (d : MachineDesc) (at : Committed) (segments : ℕ → Bool) (q n : ℕ) (g : FlatState) : Type 0 where
  pub alone : alone.IsAhead d at.inputs segments q n at.state g
  pub owned : (p t : ℕ) → p ≢ q → holds at.state p t ≡ true → segments t ≡ false
