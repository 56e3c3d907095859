use Rattle.std.proofs.Common.{not, sym, ap, ◌∙◌}
use Rattle.seq_schedule.specs.Tables.{has_turns, at_entry}
use Rattle.seq_schedule.proofs.Below.{each_fails}
use Rattle.seq_schedule.proofs.tables.each_has.Goals as goal

pub returns-then-not-has : goal.returns-then-not-has
returns-then-not-has c = sym (each_fails (at_entry (has_turns c.args.count c.args.turns) c.args.known.now) c.loop-at.at c.args.number c.loop-at-test.true (sym c.has.ensures ∙ c.if-not-has.true))
