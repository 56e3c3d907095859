-- The extents of a flush are those that its process has by the lock words.
use Rattle.std.specs.Prelude.{◌≡◌, ℕ, true, List}
use Rattle.seq_words.specs.Description.{IsDescription}
use Rattle.seq_words.specs.declared.description.MachineDesc.{MachineDesc}
use Rattle.seq_words.specs.declared.events.Event.{Event}
use Rattle.seq_process.specs.declared.running.Running.{Running}
use Rattle.seq_kernel.specs.declared.outcomes.Cause.{Cause}
use Rattle.seq_turns.specs.declared.hand.Hand.TheVariants as hand
use Rattle.seq_turns.specs.declared.hand.FlushAt.{FlushAt}
use Rattle.seq_turns.specs.Machines.{Machine}
use Rattle.seq_invariant.specs.Holds.{AllHolds}
use Rattle.seq_invariant.specs.AreasHold.{area_of, flush_area}

-- each extent of the one is one of the other
pub record IsAreaOf (d : MachineDesc) (m : Machine) (r : Running) (mask : ℕ) : Type 0 where
  pub named : (e : ℕ) → flush_area d r mask e ≡ true → area_of d m r.pid.0 e ≡ true
  pub flushed : (e : ℕ) → area_of d m r.pid.0 e ≡ true → flush_area d r mask e ≡ true

-- So it is of each flush.
pub record FlushAreasAre (d : MachineDesc) (m : Machine) : Type 0 where
  pub each : (p : ℕ) (r : Running) (why : Cause) (mask : ℕ) (x : FlushAt) → m.hand p ≡ hand.Flushing r why mask x → IsAreaOf d m r mask

-- So it is at every moment.
abbrev pub FlushAreasAgree : Type 0
FlushAreasAgree =
    (d : MachineDesc) (events : List Event) (m : Machine) (p : ℕ) (r : Running) (why : Cause) (mask : ℕ) (x : FlushAt) →
    IsDescription d → AllHolds d events m → m.hand p ≡ hand.Flushing r why mask x → IsAreaOf d m r mask
