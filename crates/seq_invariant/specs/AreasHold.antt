-- What the copies of blocks hold at every moment, in plain words: at rest, and amid the two passes of a flush.
use Rattle.std.specs.Prelude.{◌≡◌, ℕ, suc, ◌-◌, ◌<◌, ◌≤◌, Bool, true, false, ◌||◌, ◌==◌, List, length, Some, None}
use Rattle.seq_words.specs.Masks.{has_bit}
use Rattle.seq_words.specs.Description.{IsDescription}
use Rattle.seq_words.specs.declared.description.MachineDesc.{MachineDesc}
use Rattle.seq_words.specs.declared.events.Event.{Event}
use Rattle.seq_flat.specs.declared.inputs.LineInput.{LineInput}
use Rattle.seq_flat.specs.declared.state.FlatState.{FlatState}
use Rattle.seq_flat.specs.Run.{steps}
use Rattle.seq_layout.specs.Shapes.{shape_of, segment_extent}
use Rattle.seq_layout.specs.Copies.{serves}
use Rattle.seq_process.specs.declared.running.Running.{Running}
use Rattle.seq_cache.specs.declared.change.Change.{Change}
use Rattle.seq_cache.specs.Changes.{changed}
use Rattle.seq_flush.specs.declared.flush.Flush.{Flush}
use Rattle.seq_flush.specs.declared.stages.Mark.{Mark}
use Rattle.seq_flush.specs.declared.stages.First.{First}
use Rattle.seq_flush.specs.declared.stages.Second.{Second}
use Rattle.seq_flush.specs.declared.stages.Close.{Close}
use Rattle.seq_flush.specs.Turns.{units, unit_at}
use Rattle.seq_runs.specs.Histories.{entry_count}
use Rattle.seq_kernel.specs.Views.{Blocks}
use Rattle.seq_kernel.specs.declared.outcomes.Cause.{Cause}
use Rattle.seq_image.specs.Images.{image}
use Rattle.seq_image.specs.Areas.{in_area}
use Rattle.seq_turns.specs.declared.hand.Hand.{Hand}
use Rattle.seq_turns.specs.declared.hand.Hand.TheVariants as hand
use Rattle.seq_turns.specs.declared.hand.FlushAt.TheVariants as flush
use Rattle.seq_turns.specs.Machines.{Machine}
use Rattle.seq_turns.specs.Reading.{ruling, awaits}
use Rattle.seq_invariant.specs.BlockWorks.{one_more}
use Rattle.seq_lines.specs.Arrivals.{arrived}
use Rattle.seq_invariant.specs.Holds.{AllHolds}
use Rattle.seq_invariant.specs.Processes.{lock}

-- how often each process has committed
abbrev pub commits_in : Machine → ℕ → ℕ
commits_in m q = entry_count q m.history

-- the blocks of the committed state, and those of a state that process q commits next
abbrev pub kept : MachineDesc → FlatState → Machine → Blocks
kept d f m = image d f (commits_in m)

abbrev pub kept_next : MachineDesc → FlatState → Machine → ℕ → Blocks
kept_next d g m q = image d g (one_more q (commits_in m))

-- the extents that process q has by the lock words: its own, and the segments whose lock names it
abbrev pub area_of : MachineDesc → Machine → ℕ → ℕ → Bool
area_of d m q = in_area d q (λ t. lock d m t == suc q)

-- the extents of a flush: those of its process, and of the segments that it holds or has still to release
abbrev pub flush_area : MachineDesc → Running → ℕ → ℕ → Bool
flush_area d r mask = in_area d r.pid.0 (λ t. has_bit r.held t || has_bit mask t)

-- process q is being flushed
abbrev pub Flushes : Hand → ℕ → Type 0
Flushes hand.Down q = ⊥
Flushes hand.Seek q = ⊥
Flushes (hand.Claiming x c) q = ⊥
Flushes (hand.Running r) q = ⊥
Flushes (hand.Acquiring r t c) q = ⊥
Flushes (hand.Flushing r why mask f) q = r.pid.0 ≡ q
Flushes (hand.Unlocking r why mask l) q = ⊥
Flushes (hand.Leaving x l) q = ⊥
Flushes (hand.Recovering x) q = ⊥

-- each copy of an extent that is in service holds the committed state
abbrev pub Rests : MachineDesc → FlatState → Machine → ℕ → Type 0
Rests d f m e = (n : ℕ) (shadow : Bool) → serves (shape_of d) m.copies e shadow ≡ true → m.copies.block e n shadow ≡ kept d f m e n

-- So do those of a process that nobody flushes and that doesn't await recovery, and those of a segment whose lock is free.
pub record RestingAreasHold (d : MachineDesc) (f : FlatState) (m : Machine) : Type 0 where
  pub process : (q e : ℕ) → q < length d.processes → ((p : ℕ) → Flushes (m.hand p) q → ⊥) → awaits m.incarnation (ruling d m.copies q) ≡ false → area_of d m q e ≡ true → Rests d f m e
  pub segment : (t : ℕ) → t < length d.segments → lock d m t ≡ 0 → Rests d f m (segment_extent (shape_of d) t)

-- Before the commit of a flush, with so many units written: shadows hold the committed state. On primaries the units that are
-- written are those of the state that the process's steps lead to; at the places of those that are still to be written, and in all
-- blocks that are no units, they hold the committed state.
pub record FirstPassIn (d : MachineDesc) (inputs : List LineInput) (f : FlatState) (m : Machine) (r : Running) (mask : ℕ) (us : List Change) (written : ℕ) : Type 0 where
  pub next : FlatState
  pub steps : steps d inputs r.pid.0 r.steps f ≡ Some next
  pub shadows : (e n : ℕ) → flush_area d r mask e ≡ true → serves (shape_of d) m.copies e true ≡ true → m.copies.block e n true ≡ kept d f m e n
  pub units : (k : ℕ) → k < written → k < length us → serves (shape_of d) m.copies (unit_at us k).extent.0 false ≡ true →
      m.copies.block (unit_at us k).extent.0 (unit_at us k).place false ≡ kept_next d next m r.pid.0 (unit_at us k).extent.0 (unit_at us k).place
  pub to_come : (k : ℕ) → written ≤ k → k < length us → serves (shape_of d) m.copies (unit_at us k).extent.0 false ≡ true →
      m.copies.block (unit_at us k).extent.0 (unit_at us k).place false ≡ kept d f m (unit_at us k).extent.0 (unit_at us k).place
  pub others : (e n : ℕ) → flush_area d r mask e ≡ true → serves (shape_of d) m.copies e false ≡ true → changed us e n ≡ None → m.copies.block e n false ≡ kept d f m e n

-- After it: each unit is the committed block at its place, and primaries hold the committed state. So do shadows, in the units that
-- are written and in all blocks that are no units.
pub record SecondPassIn (d : MachineDesc) (f : FlatState) (m : Machine) (r : Running) (mask : ℕ) (us : List Change) (written : ℕ) : Type 0 where
  pub cached : (k : ℕ) → k < length us → (unit_at us k).block ≡ kept d f m (unit_at us k).extent.0 (unit_at us k).place
  pub primaries : (e n : ℕ) → flush_area d r mask e ≡ true → serves (shape_of d) m.copies e false ≡ true → m.copies.block e n false ≡ kept d f m e n
  pub units : (k : ℕ) → k < written → k < length us → serves (shape_of d) m.copies (unit_at us k).extent.0 true ≡ true →
      m.copies.block (unit_at us k).extent.0 (unit_at us k).place true ≡ kept d f m (unit_at us k).extent.0 (unit_at us k).place
  pub others : (e n : ℕ) → flush_area d r mask e ≡ true → serves (shape_of d) m.copies e true ≡ true → changed us e n ≡ None → m.copies.block e n true ≡ kept d f m e n

-- Amid the mark nothing is written yet, on either copy.
pub record FirstPassHolds (d : MachineDesc) (inputs : List LineInput) (f : FlatState) (m : Machine) : Type 0 where
  pub mark : (p : ℕ) (r : Running) (why : Cause) (mask : ℕ) (x : Flush Mark) → m.hand p ≡ hand.Flushing r why mask (flush.Mark x) → (e : ℕ) → flush_area d r mask e ≡ true → Rests d f m e
  pub first : (p : ℕ) (r : Running) (why : Cause) (mask : ℕ) (x : Flush First) → m.hand p ≡ hand.Flushing r why mask (flush.First x) → FirstPassIn d inputs f m r mask (units x (m.cache p).changes) x.cursor

-- Amid the close all is written, on either copy.
pub record SecondPassHolds (d : MachineDesc) (f : FlatState) (m : Machine) : Type 0 where
  pub second : (p : ℕ) (r : Running) (why : Cause) (mask : ℕ) (x : Flush Second) → m.hand p ≡ hand.Flushing r why mask (flush.Second x) → SecondPassIn d f m r mask (units x (m.cache p).changes) (x.cursor - 1)
  pub close : (p : ℕ) (r : Running) (why : Cause) (mask : ℕ) (x : Flush Close) → m.hand p ≡ hand.Flushing r why mask (flush.Close x) → (e : ℕ) → flush_area d r mask e ≡ true → Rests d f m e

-- So it is at every moment.
abbrev pub RestingAreasHoldAlways : Type 0
RestingAreasHoldAlways = (d : MachineDesc) (events : List Event) (m : Machine) → IsDescription d → (all : AllHolds d events m) → RestingAreasHold d all.at.state m

abbrev pub FirstPassHoldsAlways : Type 0
FirstPassHoldsAlways = (d : MachineDesc) (events : List Event) (m : Machine) → IsDescription d → (all : AllHolds d events m) → FirstPassHolds d (arrived d events) all.at.state m

abbrev pub SecondPassHoldsAlways : Type 0
SecondPassHoldsAlways = (d : MachineDesc) (events : List Event) (m : Machine) → IsDescription d → (all : AllHolds d events m) → SecondPassHolds d all.at.state m
