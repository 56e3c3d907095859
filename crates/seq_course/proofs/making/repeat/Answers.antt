use Rattle.std.proofs.Common.{arith}
use Rattle.seq_course.proofs.Scenes.{times_begin, times_end, amid_may, amid_on, amid_breaks, breaks_from}
use Rattle.seq_course.proofs.Lists.{times_left, times_more, times_split}
use Rattle.seq_course.proofs.making.repeat.Goals as goal

pub loop-made-init : goal.loop-made-init
loop-made-init g c = times_begin c.args.count c.args.events.now _ c.requires

pub make-requires : goal.make-requires
make-requires g c = amid_may _ _ _ _ _ _ (times_left c.loop-made.made c.args.count c.args.events.now c.loop-made-test.true) c.loop-made.invariant

pub loop-made-preserved : goal.loop-made-preserved
loop-made-preserved g c =
    amid_on _ _ _ _ _ _ _ _ (times_left c.loop-made.made c.args.count c.args.events.now c.loop-made-test.true) (times_more c.loop-made.made c.args.events.now) c.loop-made.invariant c.in_ok-make.ensures.ok

pub returns-in_err-make-clause-err : goal.returns-in_err-make-clause-err
returns-in_err-make-clause-err g c =
    breaks_from _ _ _ _ _ c.from_residual.ensures.1 (amid_breaks _ _ _ _ _ _ _ _ (times_split c.loop-made.made c.args.count c.args.events.now c.loop-made-test.true) c.loop-made.invariant.made c.in_err-make.ensures.err)

pub returns-clause-ok : goal.returns-clause-ok
returns-clause-ok g c = times_end c.loop-made.made c.args.count c.args.events.now _ _ _ (omega arith) c.loop-made-test.false c.loop-made.invariant
