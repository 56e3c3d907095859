use Rattle.std.proofs.Common.{◌≡◌, true}
use Rattle.seq_schedule.specs.Below.{each_below}
use Rattle.seq_schedule.specs.Tables.{has_turns, at_entry}
use Rattle.seq_schedule.proofs.tables.each_has.Given as goal

abbrev pub invariant-loop-at : goal.invariant-loop-at
invariant-loop-at l = each_below (at_entry (has_turns l.count l.turns) l.known) l.at ≡ true
