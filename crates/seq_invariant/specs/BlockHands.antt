-- What each hand knows of the copies in its area. The turns of a pass say it of what they will hold once what is left is written.
use Rattle.std.specs.Prelude.{◌≡◌, ℕ, ◌<◌, ◌≤◌, ◌-◌, Bool, true, false, List, [], drop, length, slice_get, Option, Some, None}
use Rattle.seq_words.specs.Masks.{has_bit}
use Rattle.seq_words.specs.declared.description.MachineDesc.{MachineDesc}
use Rattle.seq_flat.specs.declared.state.End.TheVariants.{Live}
use Rattle.seq_flat.specs.declared.state.FlatState.{FlatState}
use Rattle.seq_flat.specs.Run.{steps}
use Rattle.seq_layout.specs.Shapes.{shape_of}
use Rattle.seq_layout.specs.Copies.{Copies, serves}
use Rattle.seq_process.specs.declared.running.Running.{Running}
use Rattle.seq_cache.specs.Changes.{Changes}
use Rattle.seq_cache.specs.declared.change.Change.{Change}
use Rattle.seq_flush.specs.Facts.{all_written}
use Rattle.seq_flush.specs.Turns.{units, unit_at}
use Rattle.seq_words.specs.declared.names.Seg.{Seg}
use Rattle.seq_memory.specs.declared.element.State.TheVariants.{InService}
use Rattle.seq_kernel.specs.Refinement.{AsksFor}
use Rattle.seq_kernel.specs.Kept.{AreOwn}
use Rattle.seq_kernel.specs.declared.outcomes.Cause.{Cause}
use Rattle.seq_kernel.specs.declared.outcomes.Cause.TheVariants as cause
use Rattle.seq_image.specs.Areas.{AreAlike, in_area, CopyHolds}
use Rattle.seq_image.specs.Flushing.{with_units}
use Rattle.seq_turns.specs.declared.hand.Hand.{Hand}
use Rattle.seq_turns.specs.declared.hand.Hand.TheVariants as hand
use Rattle.seq_turns.specs.declared.hand.FlushAt.{FlushAt}
use Rattle.seq_turns.specs.declared.hand.FlushAt.TheVariants as flush
use Rattle.seq_turns.specs.declared.hand.RecoveryAt.{RecoveryAt}
use Rattle.seq_turns.specs.declared.hand.RecoveryAt.TheVariants as recovery
use Rattle.seq_recover.specs.Reading.{recovered_blocks}
use Rattle.seq_invariant.specs.BlockAreas.{segments_of, BothHold}
use Rattle.seq_invariant.specs.BlockWorks.{Committed, committed_blocks, with_commit, Works, Rested, AreUnits, Make}

-- The process runs: it lives, its changes are its own, and both copies in its area hold what was committed.
pub record Runs (d : MachineDesc) (at : Committed) (segments : ℕ → Bool) (p : Copies) (c : Changes) (r : Running) : Type 0 where
  pub works : Works d at segments r c
  pub live : r.end ≡ Live
  pub own : AreOwn d r c.changes
  pub clean : r.steps ≡ 0 → c.changes ≡ []
  pub both : BothHold (shape_of d) p (in_area d r.pid.0 segments) (committed_blocks d at)

-- copies of which each holds what was committed
abbrev pub committed_copies : MachineDesc → Committed → Copies
committed_copies d at = record { state = λ i. InService; block = λ e n shadow. committed_blocks d at e n; word = λ e n shadow. 0 }

-- The process runs, and asks for this segment in the state that its steps lead to.
pub record Acquires (d : MachineDesc) (at : Committed) (segments : ℕ → Bool) (p : Copies) (c : Changes) (r : Running) (t : Seg) : Type 0 where
  pub runs : Runs d at segments p c r
  pub left : r.used < d.quantum
  pub asks : (g : FlatState) → steps d at.inputs r.pid.0 r.steps at.state ≡ Some g → AsksFor d g r t.0

-- after this cause the process runs on
abbrev pub RunsOn : Cause → Type 0
RunsOn (cause.Release segment) = Unit {0}
RunsOn cause.Exit = ⊥
RunsOn cause.Trap = ⊥
RunsOn cause.Commit = Unit {0}
RunsOn cause.Yield = ⊥
RunsOn (cause.Wait reason) = ⊥
RunsOn cause.Room = Unit {0}
RunsOn cause.Quantum = ⊥

-- A cause and the segments that it has still to release suit the process: it lives where it runs on, and holds none of them.
pub record Suits (why : Cause) (mask : ℕ) (r : Running) : Type 0 where
  pub lives : RunsOn why → r.end ≡ Live
  pub given : (t : ℕ) → has_bit mask t ≡ true → has_bit r.held t ≡ false

-- Before the commit: these units are written, and both copies hold what was committed.
pub record Marks (d : MachineDesc) (at : Committed) (segments : ℕ → Bool) (p : Copies) (c : Changes) (r : Running) (us : List Change) : Type 0 where
  pub works : Works d at segments r c
  pub make : Make d at segments r.pid.0 us works.ahead.state
  pub both : BothHold (shape_of d) p (in_area d r.pid.0 segments) (committed_blocks d at)

-- The units from this number on are still to be written: on primaries in service the committed blocks stand at their places.
pub record AreToCome (d : MachineDesc) (at : Committed) (p : Copies) (us : List Change) (cursor : ℕ) : Type 0 where
  pub each : (k : ℕ) → cursor ≤ k → k < length us → serves (shape_of d) p (unit_at us k).extent.0 false ≡ true →
      p.block (unit_at us k).extent.0 (unit_at us k).place false ≡ committed_blocks d at (unit_at us k).extent.0 (unit_at us k).place

-- Each of these changes is the committed block at its place: over what is committed in an area they change nothing.
abbrev pub AreCommitted : MachineDesc → Committed → (ℕ → Bool) → List Change → Type 0
AreCommitted d at area us = AreAlike area (with_units us (committed_blocks d at)) (committed_blocks d at)

-- The first pass: with the units that are left written, the primaries hold what is to be committed; the shadows hold what was.
pub record FirstPass (d : MachineDesc) (at : Committed) (segments : ℕ → Bool) (p : Copies) (c : Changes) (r : Running) (us : List Change) (cursor : ℕ) : Type 0 where
  pub works : Works d at segments r c
  pub make : Make d at segments r.pid.0 us works.ahead.state
  pub primaries : CopyHolds (shape_of d) (all_written (shape_of d) p false (drop cursor us)) false (in_area d r.pid.0 segments) (committed_blocks d (with_commit at r.pid.0 works.ahead.state))
  pub shadows : CopyHolds (shape_of d) p true (in_area d r.pid.0 segments) (committed_blocks d at)
  pub to_come : AreToCome d at p us cursor

-- The second pass: the units are committed, and the primaries hold what is; the shadows do with the units that are left written.
pub record SecondPass (d : MachineDesc) (at : Committed) (segments : ℕ → Bool) (p : Copies) (c : Changes) (r : Running) (us : List Change) (cursor : ℕ) : Type 0 where
  pub rested : Rested d at segments r c
  pub units : AreUnits d segments r.pid.0 us
  pub number : cursor ≤ length us
  pub primaries : CopyHolds (shape_of d) p false (in_area d r.pid.0 segments) (committed_blocks d at)
  pub shadows : CopyHolds (shape_of d) (all_written (shape_of d) p true (drop (cursor - 1) us)) true (in_area d r.pid.0 segments) (committed_blocks d at)
  pub cached : AreCommitted d at (in_area d r.pid.0 segments) us

-- After both passes: both copies hold what is committed, and so do the changes in the cache.
pub record Closes (d : MachineDesc) (at : Committed) (segments : ℕ → Bool) (p : Copies) (c : Changes) (r : Running) : Type 0 where
  pub rested : Rested d at segments r c
  pub both : BothHold (shape_of d) p (in_area d r.pid.0 segments) (committed_blocks d at)
  pub cached : AreCommitted d at (in_area d r.pid.0 segments) c.changes

abbrev pub FlushKnows : MachineDesc → Committed → (ℕ → Bool) → Copies → Changes → Running → FlushAt → Type 0
FlushKnows d at segments p c r (flush.Mark f) = Marks d at segments p c r (units f c.changes)
FlushKnows d at segments p c r (flush.First f) = FirstPass d at segments p c r (units f c.changes) f.cursor
FlushKnows d at segments p c r (flush.Second f) = SecondPass d at segments p c r (units f c.changes) f.cursor
FlushKnows d at segments p c r (flush.Close f) = Closes d at segments p c r

-- a block has the same content on both copies
abbrev pub IsSame : Copies → Option (ℕ × ℕ) → Type 0
IsSame p (Some b) = p.block b.0 b.1 true ≡ p.block b.0 b.1 false
IsSame p None = Unit {0}

-- the blocks behind the cursor of a recovery of process q are the same on both copies
pub record CopiedBehind (d : MachineDesc) (p : Copies) (q cursor : ℕ) : Type 0 where
  pub inside : q < length d.processes
  pub same : (k : ℕ) → k < cursor → IsSame p (slice_get (recovered_blocks d p q) k)

abbrev pub RecoveryKnows : MachineDesc → Copies → RecoveryAt → Type 0
RecoveryKnows d p (recovery.Claimed r) = Unit {0}
RecoveryKnows d p (recovery.Copying r) = CopiedBehind d p r.pid.0 r.cursor
RecoveryKnows d p (recovery.Locks r) = Unit {0}
RecoveryKnows d p (recovery.Closing r) = Unit {0}

abbrev pub HandKnows : MachineDesc → Committed → Copies → Changes → Hand → Type 0
HandKnows d at p c hand.Down = Unit {0}
HandKnows d at p c hand.Seek = Unit {0}
HandKnows d at p c (hand.Claiming q k) = Unit {0}
HandKnows d at p c (hand.Running r) = Runs d at (segments_of d (hand.Running r)) p c r
HandKnows d at p c (hand.Acquiring r t k) = Acquires d at (segments_of d (hand.Acquiring r t k)) p c r t
HandKnows d at p c (hand.Flushing r why mask f) = FlushKnows d at (segments_of d (hand.Flushing r why mask f)) p c r f × Suits why mask r
HandKnows d at p c (hand.Unlocking r why mask l) = Closes d at (segments_of d (hand.Unlocking r why mask l)) p c r × (c.changes ≡ []) × Suits why mask r
HandKnows d at p c (hand.Leaving q l) = Unit {0}
HandKnows d at p c (hand.Recovering r) = RecoveryKnows d p r
