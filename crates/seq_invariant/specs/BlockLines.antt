-- What stands of words and blocks gives what the lines need of them, and what a settled machine needs.
use Rattle.std.specs.Prelude.{◌≡◌, ℕ, ◌<◌, Bool, true, length}
use Rattle.seq_words.specs.Description.{IsDescription}
use Rattle.seq_words.specs.declared.description.MachineDesc.{MachineDesc}
use Rattle.seq_flat.specs.declared.state.FlatState.{FlatState}
use Rattle.seq_process.specs.declared.running.Running.{Running}
use Rattle.seq_kernel.specs.declared.outcomes.Cause.{Cause}
use Rattle.seq_flush.specs.declared.flush.Flush.{Flush}
use Rattle.seq_flush.specs.declared.stages.First as first_stage
use Rattle.seq_runs.specs.Ahead.{IsAhead}
use Rattle.seq_turns.specs.declared.hand.Hand.TheVariants as hand
use Rattle.seq_turns.specs.declared.hand.FlushAt.TheVariants as flush
use Rattle.seq_turns.specs.Machines.{Machine}
use Rattle.seq_turns.specs.Reading.{ruling}
use Rattle.seq_turns.specs.Duties.{is_steady}
use Rattle.seq_stands.specs.Standing.{Stands}
use Rattle.seq_invariant.specs.BlockWorks.{Committed}
use Rattle.seq_invariant.specs.BlockStanding.{BlocksStand}
use Rattle.seq_lines.specs.Known.{SteadyHold, HandIsWithin, ClaimsImage, CommitsOutput}
use Rattle.seq_lines.specs.Inside.{UnitsAreOff}
use Rattle.seq_lines.specs.Settled.{FirstCopiesAre}

-- what the lines need
pub record GivesLines (d : MachineDesc) (at : Committed) (m : Machine) : Type 0 where
  pub steady : SteadyHold d m at.state at.commits
  pub within : (p : ℕ) → HandIsWithin d (m.hand p)
  pub claims : (p : ℕ) → ClaimsImage d m.copies at.state at.commits (m.hand p)
  pub units : (p : ℕ) → UnitsAreOff d (m.cache p) (m.hand p)

abbrev pub BlocksGiveLines : Type 0
BlocksGiveLines = (d : MachineDesc) (at : Committed) (m : Machine) → IsDescription d → Stands d m → BlocksStand d at m → GivesLines d at m

-- The state that a flush is to commit: its process's steps lead there, and it has put out what it had written.
pub record IsToCommit (d : MachineDesc) (at : Committed) (r : Running) : Type 0 where
  pub state : FlatState
  pub area : ℕ → Bool
  pub ahead : IsAhead d at.inputs area r.pid.0 r.steps at.state state
  pub output : CommitsOutput d at.state state r

abbrev pub FlushesAreToCommit : Type 0
FlushesAreToCommit =
    (d : MachineDesc) (at : Committed) (m : Machine) (p : ℕ) (r : Running) (cause : Cause) (mask : ℕ) (f : Flush first_stage.First) →
    BlocksStand d at m → m.hand p ≡ hand.Flushing r cause mask (flush.First f) → IsToCommit d at r

-- where every process is steady, all first copies hold what is committed
abbrev pub SteadyMachinesHold : Type 0
SteadyMachinesHold =
    (d : MachineDesc) (at : Committed) (m : Machine) →
    IsDescription d → Stands d m → BlocksStand d at m → ((q : ℕ) → q < length d.processes → is_steady (ruling d m.copies q) ≡ true) → FirstCopiesAre d m.copies at.state at.commits
