use Rattle.std.proofs.Common.{◌≡◌, ◌≤◌}
use Rattle.seq_schedule.specs.Below.{count_below}
use Rattle.seq_schedule.specs.Tables.{is_troubled, at_entry}
use Rattle.seq_schedule.proofs.tables.count_out.Given as goal

abbrev pub invariant-loop-at : goal.invariant-loop-at
invariant-loop-at l = l.count ≡ count_below (at_entry is_troubled l.known) l.at
