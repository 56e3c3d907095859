-- What a turn does to the counts of a running process, to how it stands, and to the positions and segments that it keeps.
use Rattle.std.specs.Prelude.{◌≡◌, ◌≢◌, ℕ, ◌+◌, ◌≤◌, true, false, count_ones, slice_index}
use Rattle.seq_words.specs.Masks.{has_bit}
use Rattle.seq_words.specs.declared.description.MachineDesc.{MachineDesc}
use Rattle.seq_flat.specs.declared.state.End.TheVariants.{Live}
use Rattle.seq_layout.specs.Copies.{Copies}
use Rattle.seq_process.specs.declared.running.Running.{Running}
use Rattle.seq_cache.specs.Changes.{Changes}
use Rattle.seq_kernel.specs.declared.outcomes.Outcome.{Outcome}
use Rattle.seq_kernel.specs.declared.outcomes.Outcome.TheVariants.{NeedsFlush}
use Rattle.seq_kernel.specs.declared.outcomes.Cause.TheVariants as cause
use Rattle.seq_kernel.specs.Turns.{Turned}
use Rattle.seq_kernel.specs.Calls.{lines_of, granted}
use Rattle.seq_kernel.specs.Steps.{step_of}
use Rattle.seq_kernel.specs.Bounds.{LeavesUnused}
use Rattle.seq_kernel.specs.Kept.{keeps_segments}
use Rattle.seq_kernel.specs.Refinement.{takes_step}

-- a turn of this outcome ends no process: only exit and a trap do
abbrev pub goes_on : Outcome → Type 0
goes_on (NeedsFlush cause.Exit) = ⊥
goes_on (NeedsFlush cause.Trap) = ⊥
goes_on _ = Unit {0}

-- A step counts once. The process stands as it did, but where exit or a trap ends it. Positions of lines that the process doesn't
-- have stay as they are; so does the mask of the segments that it holds, but where it gives some up, and then the cache stays.
pub record IsCounted (d : MachineDesc) (r : Running) (c : Changes) (after : Turned) : Type 0 where
  pub steps : takes_step after.outcome → after.running.steps ≡ r.steps + 1
  pub used : takes_step after.outcome → after.running.used ≡ r.used + 1
  pub end : goes_on after.outcome → after.running.end ≡ r.end
  pub ended : (goes_on after.outcome → ⊥) → after.running.end ≢ Live
  pub reads : (i : ℕ) → count_ones (lines_of d r) ≤ i → slice_index after.running.reads i ≡ slice_index r.reads i
  pub writes : (i : ℕ) → count_ones (lines_of d r) ≤ i → slice_index after.running.writes i ≡ slice_index r.writes i
  pub held : keeps_segments after.outcome → after.running.held ≡ r.held
  pub fewer : (t : ℕ) → has_bit after.running.held t ≡ true → has_bit r.held t ≡ true
  pub given : (t : ℕ) → has_bit r.held t ≡ true → has_bit after.running.held t ≡ false → after.cache ≡ c
  pub process : after.running.pid ≡ r.pid

-- each turn is so
abbrev pub TurnsAreCounted : Type 0
TurnsAreCounted = (d : MachineDesc) (p : Copies) (r : Running) (c : Changes) → IsCounted d r c (step_of d p r c)

-- Positions that are 0 for lines that a process doesn't have stay so in every turn, and where a lock grants a segment.
abbrev pub UnusedStay : Type 0
UnusedStay =
    (d : MachineDesc) (p : Copies) (r : Running) (c : Changes) → LeavesUnused d r →
    LeavesUnused d (step_of d p r c).running × ((t : ℕ) → LeavesUnused d (granted r t))
