-- The entries so far are changed, and the others aren't.
use Rattle.std.proofs.Common.{◌≡◌, ℕ, ◌<◌, ◌≤◌, length, get_or}
use Rattle.seq_schedule.specs.Known.{fresh, uncounted}
use Rattle.seq_schedule.proofs.Entries.{AreChanged}
use Rattle.seq_schedule.proofs.tables.uncount_all.Given as goal

abbrev pub invariant-loop-entry : goal.invariant-loop-entry
invariant-loop-entry l = AreChanged uncounted l.initial.known l.known l.entry-index
