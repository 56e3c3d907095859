-- The bounds of what the processors are about.
use Rattle.std.specs.Prelude.{◌≡◌, ℕ, ◌<◌, true, false, length}
use Rattle.seq_words.specs.Masks.{has_bit}
use Rattle.seq_words.specs.Description.{IsDescription}
use Rattle.seq_words.specs.declared.block.Block.{Block}
use Rattle.seq_words.specs.declared.description.MachineDesc.{MachineDesc}
use Rattle.seq_flat.specs.declared.state.End.{End}
use Rattle.seq_flat.specs.declared.state.End.TheVariants.{Live}
use Rattle.seq_process.specs.declared.running.Running.{Running}
use Rattle.seq_process.specs.Contexts.{started, end_of}
use Rattle.seq_cache.specs.Changes.{IsCache}
use Rattle.seq_kernel.specs.Bounds.{IsWithin, AreReadable}
use Rattle.seq_kernel.specs.Kept.{HasZeros}
use Rattle.seq_kernel.specs.declared.outcomes.Cause.{Cause}
use Rattle.seq_kernel.specs.declared.outcomes.Cause.TheVariants as cause
use Rattle.seq_locks.specs.declared.claim.Claim.{Claim}
use Rattle.seq_locks.specs.declared.stages.Shadow.{Shadow}
use Rattle.seq_locks.specs.Turns.{is_taken}
use Rattle.seq_layout.specs.Shapes.{shape_of}
use Rattle.seq_turns.specs.declared.hand.Hand.{Hand}
use Rattle.seq_turns.specs.declared.hand.Hand.TheVariants as hand
use Rattle.seq_words.specs.declared.events.Event.{Event}
use Rattle.seq_words.specs.declared.events.Event.TheVariants as event
use Rattle.seq_turns.specs.Machines.{Machine}
use Rattle.seq_turns.specs.Reading.{context_of}
use Rattle.seq_turns.specs.Start.{start}
use Rattle.seq_turns.specs.Allowed.{Allowed}
use Rattle.seq_turns.specs.Events.{happens}
use Rattle.seq_stands.specs.Standing.{Stands}

-- a process within its bounds, of which x0 is 0
pub record ProcessFits (d : MachineDesc) (r : Running) : Type 0 where
  pub within : IsWithin d r
  pub zeros : HasZeros r.pair

-- a process that runs on after this cause lives
abbrev pub GoesOn : Cause → End → Type 0
GoesOn (cause.Release t) end = end ≡ Live
GoesOn cause.Exit end = Unit {0}
GoesOn cause.Trap end = Unit {0}
GoesOn cause.Commit end = end ≡ Live
GoesOn cause.Yield end = Unit {0}
GoesOn (cause.Wait reason) end = Unit {0}
GoesOn cause.Room end = end ≡ Live
GoesOn cause.Quantum end = Unit {0}

-- the segments of a mask are there
pub record MaskFits (d : MachineDesc) (mask : ℕ) : Type 0 where
  pub inside : (t : ℕ) → has_bit mask t ≡ true → t < length d.segments

-- the lock of a segment that is claimed, by a process with a step left
pub record ClaimFits (d : MachineDesc) (r : Running) (t : ℕ) : Type 0 where
  pub inside : t < length d.segments
  pub new : has_bit r.held t ≡ false
  pub left : r.used < d.quantum

abbrev pub HandFits : MachineDesc → Hand → Type 0
HandFits d hand.Down = Unit {0}
HandFits d hand.Seek = Unit {0}
HandFits d (hand.Claiming q c) = Unit {0}
HandFits d (hand.Running r) = ProcessFits d r × (r.end ≡ Live)
HandFits d (hand.Acquiring r t c) = ProcessFits d r × (r.end ≡ Live) × ClaimFits d r t.0
HandFits d (hand.Flushing r c mask f) = ProcessFits d r × GoesOn c r.end × MaskFits d mask
HandFits d (hand.Unlocking r c mask l) = ProcessFits d r × GoesOn c r.end × MaskFits d mask
HandFits d (hand.Leaving q l) = Unit {0}
HandFits d (hand.Recovering r) = Unit {0}

pub record HandsFit (d : MachineDesc) (m : Machine) : Type 0 where
  pub hands : (p : ℕ) → HandFits d (m.hand p)
  pub caches : (p : ℕ) → IsCache (m.cache p)

-- a live process whose claim processor p holds, and that it takes up then, is within its bounds
abbrev pub TakesWithin : MachineDesc → Machine → ℕ → Type 0
TakesWithin d m p = (q : ℕ) (c : Claim Shadow) → m.hand p ≡ hand.Claiming (record { 0 = q }) c → is_taken (shape_of d) m.copies c.at true ≡ false → end_of (context_of d m.copies q) ≡ Live → ProcessFits d (started (record { 0 = q }) (context_of d m.copies q))

-- what an event takes from the memories: only a processor's turn takes anything
pub record TurnTakes (d : MachineDesc) (m : Machine) (p : ℕ) : Type 0 where
  pub readable : AreReadable d m.copies
  pub within : TakesWithin d m p

abbrev pub Takes : MachineDesc → Machine → Event → Type 0
Takes d m (event.Processor p) = TurnTakes d m p.0
Takes d m (event.Io i) = Unit {0}
Takes d m (event.Input l byte) = Unit {0}
Takes d m (event.Close l) = Unit {0}
Takes d m (event.Fail e) = Unit {0}
Takes d m (event.Repair e) = Unit {0}
Takes d m (event.Upset p half reg mask) = Unit {0}
Takes d m (event.Hangup l) = Unit {0}

abbrev pub StartHandsFit : Type 0
StartHandsFit = (d : MachineDesc) (image : ℕ → ℕ → Block) → IsDescription d → HandsFit d (start d image)

-- every event keeps them
abbrev pub EventsKeepHandsFit : Type 0
EventsKeepHandsFit = (d : MachineDesc) (m : Machine) (e : Event) → IsDescription d → Allowed d m e → Stands d m → Takes d m e → HandsFit d m → HandsFit d (happens d m e)
