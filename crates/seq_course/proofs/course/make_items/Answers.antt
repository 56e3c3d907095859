use Rattle.std.proofs.Common.{true, false, sym}
use Rattle.seq_course.proofs.Items.{none_made, as_said, round_here, next_may, item_made, out_of_turns, stopped_at, all_made}
use Rattle.seq_course.proofs.course.make_items.Goals as goal

pub loop-item-init : goal.loop-item-init
loop-item-init g c = none_made c.args.items.now _ c.requires.begins

pub make_script-requires-clause-round : goal.make_script-requires-clause-round
make_script-requires-clause-round g c = round_here _ _ _ _ _ c.args.round.now c.loop-item.invariant c.requires.round

pub make_script-requires-clause-may : goal.make_script-requires-clause-may
make_script-requires-clause-may g c =
    next_may c.args.hardware.now.desc c.requires.begins.ready.ready.hardware.described c.args.items.now c.requires.items c.loop-item.item-index c.item-item.result c.loop-item-test.true (sym c.item-item.is) _ _ c.loop-item.invariant

pub loop-item-preserved : goal.loop-item-preserved
loop-item-preserved g c =
    item_made c.args.hardware.now.desc c.requires.begins.ready.ready.hardware.described c.args.items.now c.requires.items c.loop-item.item-index c.item-item.result c.loop-item-test.true (sym c.item-item.is) _ _ c.loop-item.invariant _ (as_said _ _ true _ _ c.in-Ok-true.field-0-test c.in-Ok-true.ensures.ok)

pub returns-in-Ok-false-clause-takes : goal.returns-in-Ok-false-clause-takes
returns-in-Ok-false-clause-takes g c =
    out_of_turns c.args.hardware.now.desc c.requires.begins.ready.ready.hardware.described c.args.items.now c.requires.items c.loop-item.item-index c.item-item.result c.loop-item-test.true (sym c.item-item.is) _ _ c.loop-item.invariant _ (as_said _ _ false _ _ c.in-Ok-false.field-0-test c.in-Ok-false.ensures.ok)

pub returns-in-Err-clause-takes : goal.returns-in-Err-clause-takes
returns-in-Err-clause-takes g c =
    stopped_at c.args.hardware.now.desc c.requires.begins.ready.ready.hardware.described c.args.items.now c.requires.items c.loop-item.item-index c.item-item.result c.loop-item-test.true (sym c.item-item.is) _ _ c.loop-item.invariant _ c.in-Err.stop c.in-Err.ensures.err

pub returns-clause-takes : goal.returns-clause-takes
returns-clause-takes g c = all_made c.args.hardware.now.desc c.requires.begins.ready.ready.hardware.described c.args.items.now c.requires.items c.loop-item.item-index _ _ c.loop-item-test.false c.loop-item.invariant
