use Rattle.std.proofs.Common.{◌<◌, length, refl, ap, ◌∙◌, arith}
use Rattle.std.proofs.lemmas.List.{get_or_default}
use Rattle.seq_schedule.specs.Known.{fresh, uncounted}
use Rattle.seq_schedule.proofs.Entries.{none_changed, one_changed, all_changed}
use Rattle.seq_schedule.proofs.tables.uncount_all.Goals as goal

pub loop-entry-init : goal.loop-entry-init
loop-entry-init c = none_changed uncounted c.args.known.now

pub loop-entry-preserved : goal.loop-entry-preserved
loop-entry-preserved c =
    let inside : c.loop-entry.entry-index < length c.loop-entry.known = omega (arith, c.loop-entry-test.true, c.loop-entry.invariant.length_same) in
    one_changed uncounted c.args.known.now c.loop-entry.known c.loop-entry.entry-index c.uncounted.result inside c.loop-entry.invariant
    (c.uncounted.ensures ∙ ap uncounted (get_or_default c.loop-entry.known c.loop-entry.entry-index _ fresh inside))

pub returns-clause-length : goal.returns-clause-length
returns-clause-length c = c.loop-entry.invariant.length_same

pub returns-clause-each : goal.returns-clause-each
returns-clause-each c = all_changed uncounted c.args.known.now c.loop-entry.known c.loop-entry.entry-index refl (omega (arith, c.loop-entry-test.false)) c.loop-entry.invariant
