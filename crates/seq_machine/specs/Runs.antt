-- What a turn of a running process comes to.
use Rattle.std.specs.Prelude.{ℕ}
use Rattle.seq_words.specs.declared.description.MachineDesc.{MachineDesc}
use Rattle.seq_process.specs.declared.running.Running.{Running}
use Rattle.seq_cache.specs.Changes.{Changes}
use Rattle.seq_kernel.specs.declared.outcomes.Outcome.{Outcome}
use Rattle.seq_kernel.specs.declared.outcomes.Outcome.TheVariants.{Done, Claim, NeedsFlush, Waits, Diverged}
use Rattle.seq_kernel.specs.declared.outcomes.Cause.TheVariants.{Wait}
use Rattle.seq_kernel.specs.declared.outcomes.Note.TheVariants.{Ran as StepTaken}
use Rattle.seq_turns.specs.declared.hand.Hand.TheVariants.{Running as Runs}
use Rattle.seq_turns.specs.Machines.{Machine, Turn, idles}
use Rattle.seq_turns.specs.Machines.Turn.{Moves, Stops as StopsProcessor}
use Rattle.seq_turns.specs.Causes.{finds, released}
use Rattle.seq_turns.specs.Processors.{acquisition}
use Rattle.seq_machine.specs.declared.runs.Ran.{Ran}
use Rattle.seq_machine.specs.declared.runs.Ran.TheVariants.{Goes, Leaves, Acquires, Stops}

-- what a step comes to, of a process that held these segments
abbrev pub comes_to : ℕ → Outcome → Ran
comes_to held Done = Goes
comes_to held (Claim segment) = Acquires segment
comes_to held (NeedsFlush cause) = Leaves cause (released held cause)
comes_to held (Waits reason) = Leaves (Wait reason) 0
comes_to held Diverged = Stops

-- the turn of processor p whose process came to this, with the process and the cache as they are then
abbrev pub turn_after : MachineDesc → Machine → ℕ → Running → Changes → Ran → Turn
turn_after d m p r cache Goes = Moves (record (idles m p) { hand = Runs r; cache = cache; note = StepTaken r.pid })
turn_after d m p r cache (Leaves cause mask) = finds d m p r cache cause mask
turn_after d m p r cache (Acquires segment) = acquisition d m p r segment
turn_after d m p r cache Stops = StopsProcessor
