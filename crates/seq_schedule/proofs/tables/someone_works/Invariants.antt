use Rattle.std.proofs.Common.{◌≡◌, false}
use Rattle.seq_schedule.specs.Below.{some_below}
use Rattle.seq_schedule.specs.Tables.{works, at_entry}
use Rattle.seq_schedule.proofs.tables.someone_works.Given as goal

abbrev pub invariant-loop-at : goal.invariant-loop-at
invariant-loop-at l = some_below (at_entry works l.known) l.at ≡ false
