-- A turn keeps the bounds under which the next one may be taken.
use Rattle.std.specs.Prelude.{◌≡◌, ◌≢◌, ◌⊎◌, ℕ, ◌<◌, ◌≤◌, true, false, List, All, length, slice_index, Option, Some, None}
use Rattle.seq_words.specs.Masks.{has_bit}
use Rattle.seq_words.specs.Description.{IsDescription, process_of}
use Rattle.seq_words.specs.declared.description.MachineDesc.{MachineDesc}
use Rattle.seq_words.specs.declared.half.Half.{Half}
use Rattle.seq_words.specs.declared.half.Half.TheVariants.{A, B}
use Rattle.seq_words.specs.declared.regs.Regs.{Regs}
use Rattle.seq_pair.specs.declared.halves.Pair.{Pair}
use Rattle.seq_pair.specs.Halves.{other_half, struck}
use Rattle.seq_layout.specs.Places.{IsPlace}
use Rattle.seq_layout.specs.Shapes.{shape_of, segment_extent}
use Rattle.seq_layout.specs.Copies.{Copies}
use Rattle.seq_process.specs.declared.running.Running.{Running}
use Rattle.seq_cache.specs.declared.change.Change.{Change}
use Rattle.seq_cache.specs.Changes.{Changes, IsCache}
use Rattle.seq_kernel.specs.declared.outcomes.Outcome.{Outcome}
use Rattle.seq_kernel.specs.declared.outcomes.Outcome.TheVariants.{NeedsFlush}
use Rattle.seq_kernel.specs.declared.outcomes.Cause.TheVariants as cause
use Rattle.seq_kernel.specs.Turns.{Turned}
use Rattle.seq_kernel.specs.Calls.{granted}
use Rattle.seq_kernel.specs.Steps.{step_of}
use Rattle.seq_kernel.specs.Bounds.{IsWithin, IsRunning, AreReadable}
use Rattle.seq_kernel.specs.Refinement.{takes_step}

-- the process and the cache are as they were
pub record IsUnchanged (r : Running) (c : Changes) (after : Turned) : Type 0 where
  pub running : after.running ≡ r
  pub cache : after.cache ≡ c

-- x0 of a half is 0
abbrev pub IsZero : Regs → Type 0
IsZero r = slice_index r.x 0 ≡ 0

-- x0 of each half that isn't struck is 0
abbrev pub ZerosOf : Option Half → Regs → Regs → Type 0
ZerosOf None a b = IsZero a × IsZero b
ZerosOf (Some A) a b = IsZero b
ZerosOf (Some B) a b = IsZero a

abbrev pub HasZeros : Pair → Type 0
HasZeros pair = ZerosOf pair.struck pair.a pair.b

-- Where no step is taken, nothing changes. All bounds hold after a turn too: so the next one may be taken where the process lives
-- and has steps left.
pub record KeepsBounds (d : MachineDesc) (r : Running) (c : Changes) (after : Turned) : Type 0 where
  pub unchanged : (takes_step after.outcome → ⊥) → IsUnchanged r c after
  pub within : IsWithin d after.running
  pub zeros : HasZeros r.pair → HasZeros after.running.pair
  pub process : after.running.pid ≡ r.pid
  pub commits : after.running.commits ≡ r.commits

-- a turn keeps the bounds
abbrev pub StepsKeepBounds : Type 0
StepsKeepBounds =
    (d : MachineDesc) (p : Copies) (r : Running) (c : Changes) →
    IsDescription d → AreReadable d p → IsRunning d r → KeepsBounds d r c (step_of d p r c)

-- A strike at a half, where the other isn't struck, keeps them too.
abbrev pub StrikesKeepBounds : Type 0
StrikesKeepBounds =
    (d : MachineDesc) (r : Running) (half : Half) (reg mask : ℕ) → r.pair.struck ≢ Some (other_half half) →
    (IsWithin d r → IsWithin d (record r { pair = struck r.pair half reg mask })) × (HasZeros r.pair → HasZeros (struck r.pair half reg mask))

-- a block of the process past its context, or of a segment that it holds
pub record IsOwn (d : MachineDesc) (pid held : ℕ) (change : Change) : Type 0 where
  pub place : IsPlace (shape_of d).blocks change.extent.0 change.place
  pub owned : ((change.extent.0 ≡ pid) × (8 ≤ change.place)) ⊎ ((t : ℕ) × (has_bit held t ≡ true) × (change.extent.0 ≡ segment_extent (shape_of d) t))

-- each changed block is one of these
abbrev pub AreOwn : MachineDesc → Running → List Change → Type 0
AreOwn d r changes = All (IsOwn d r.pid.0 r.held) changes

-- the process gives up no segment
abbrev pub keeps_segments : Outcome → Type 0
keeps_segments (NeedsFlush (cause.Release segment)) = ⊥
keeps_segments (NeedsFlush cause.Exit) = ⊥
keeps_segments (NeedsFlush cause.Trap) = ⊥
keeps_segments _ = Unit {0}

-- The cache stays a cache. The changed blocks are the process's, with the segments that it held before, and with those that
-- it holds then where it gives up none.
pub record KeepsCache (d : MachineDesc) (r : Running) (c : Changes) (after : Turned) : Type 0 where
  pub cache : IsCache c → IsCache after.cache
  pub held_before : AreOwn d r c.changes → AreOwn d r after.cache.changes
  pub own : keeps_segments after.outcome → AreOwn d r c.changes → AreOwn d after.running after.cache.changes

-- a turn keeps the cache within its bounds
abbrev pub StepsKeepCache : Type 0
StepsKeepCache =
    (d : MachineDesc) (p : Copies) (r : Running) (c : Changes) →
    IsDescription d → AreReadable d p → IsRunning d r → KeepsCache d r c (step_of d p r c)

-- a block of an extent, and none of the context of the process
pub record IsBeside (d : MachineDesc) (pid : ℕ) (change : Change) : Type 0 where
  pub place : IsPlace (shape_of d).blocks change.extent.0 change.place
  pub beside : change.extent.0 ≡ pid → 8 ≤ change.place

-- the process's own blocks are such blocks
abbrev pub OwnBlocksAreBeside : Type 0
OwnBlocksAreBeside =
    (d : MachineDesc) (r : Running) (changes : List Change) →
    r.pid.0 < length d.processes → AreOwn d r changes → All (IsBeside d r.pid.0) changes

-- the same of an acquire that its lock grants
pub record KeepsGrant (d : MachineDesc) (r : Running) (t : ℕ) : Type 0 where
  pub within : IsWithin d (granted r t)
  pub zeros : HasZeros r.pair → HasZeros (granted r t).pair
  pub own : (changes : List Change) → AreOwn d r changes → AreOwn d (granted r t) changes

abbrev pub GrantsKeepBounds : Type 0
GrantsKeepBounds =
    (d : MachineDesc) (r : Running) (t : ℕ) →
    IsRunning d r → t < length d.segments → has_bit r.held t ≡ false → KeepsGrant d r t
