-- What the copies of blocks hold, in plain words, of a process that awaits recovery.
use Rattle.std.specs.Prelude.{◌≡◌, ℕ, ◌<◌, Bool, true, not, List, length, Some, None, slice_get}
use Rattle.seq_words.specs.Description.{IsDescription}
use Rattle.seq_words.specs.declared.description.MachineDesc.{MachineDesc}
use Rattle.seq_words.specs.declared.events.Event.{Event}
use Rattle.seq_flat.specs.declared.state.FlatState.{FlatState}
use Rattle.seq_turns.specs.declared.hand.Hand.TheVariants as hand
use Rattle.seq_recover.specs.declared.recovery.Recovery.{Recovery}
use Rattle.seq_recover.specs.declared.recovery.Copying.{Copying}
use Rattle.seq_turns.specs.declared.hand.RecoveryAt.TheVariants as recovery
use Rattle.seq_turns.specs.Machines.{Machine}
use Rattle.seq_turns.specs.Reading.{ruling}
use Rattle.seq_recover.specs.Reading.{recovered_blocks}
use Rattle.seq_invariant.specs.BlockLeft.{way_of}
use Rattle.seq_invariant.specs.Holds.{AllHolds}
use Rattle.seq_invariant.specs.Processes.{Awaits}
use Rattle.seq_invariant.specs.AreasHold.{kept, area_of, Rests}

-- Of a process that awaits recovery by a word that says Run, every copy in its area holds the committed state. By Pass1 and Back,
-- the shadows do; by Pass2 and Forward, the primaries. Amid the copying, the blocks behind the cursor do on both.
pub record LeftAreasHold (d : MachineDesc) (f : FlatState) (m : Machine) : Type 0 where
  pub run : (q e : ℕ) → q < length d.processes → way_of (ruling d m.copies q) ≡ None → Awaits d m q → area_of d m q e ≡ true → Rests d f m e
  pub pass : (q e n : ℕ) (forward : Bool) → q < length d.processes → way_of (ruling d m.copies q) ≡ Some forward → Awaits d m q → area_of d m q e ≡ true → m.copies.block e n (not forward) ≡ kept d f m e n
  pub copied : (p k : ℕ) (r : Recovery Copying) (b : ℕ × ℕ) (c : Bool) → m.hand p ≡ hand.Recovering (recovery.Copying r) → k < r.cursor → slice_get (recovered_blocks d m.copies r.pid.0) k ≡ Some b → m.copies.block b.0 b.1 c ≡ kept d f m b.0 b.1

-- So it is at every moment.
abbrev pub LeftAreasHoldAlways : Type 0
LeftAreasHoldAlways = (d : MachineDesc) (events : List Event) (m : Machine) → IsDescription d → (all : AllHolds d events m) → LeftAreasHold d all.at.state m
