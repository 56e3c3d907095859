use Rattle.std.proofs.Common.{not, sym, ap, ◌∙◌}
use Rattle.seq_schedule.specs.Tables.{works, at_entry}
use Rattle.seq_schedule.proofs.Below.{some_found}
use Rattle.seq_schedule.proofs.tables.someone_works.Goals as goal

pub returns-then-not-known-at : goal.returns-then-not-known-at
returns-then-not-known-at c = sym (some_found (at_entry works c.args.known.now) c.loop-at.at c.args.number c.loop-at-test.true (ap not c.if-not-known-at.true))
