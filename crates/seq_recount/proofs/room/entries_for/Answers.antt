use Rattle.std.proofs.Common.{◌+◌, arith}
use Rattle.seq_recount.proofs.Few.{one_more, first_few}
use Rattle.seq_recount.proofs.room.entries_for.Goals as goal

pub overflow_add-turns : goal.overflow_add-turns
overflow_add-turns c =
    let more = one_more c.args.desc.now c.args.items.now c.loop-item.item-index c.item-item.result c.loop-item-test.true c.item-item.is in
    omega (arith, more, first_few c.args.desc.now c.args.items.now (c.loop-item.item-index + 1) c.requires, c.loop-item.invariant, c.turns_in-turns.ensures.value)

pub loop-item-preserved : goal.loop-item-preserved
loop-item-preserved c =
    let more = one_more c.args.desc.now c.args.items.now c.loop-item.item-index c.item-item.result c.loop-item-test.true c.item-item.is in
    omega (arith, more, c.loop-item.invariant, c.turns_in-turns.ensures.value)
