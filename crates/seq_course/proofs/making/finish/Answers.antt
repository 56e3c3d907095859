use Rattle.std.proofs.Common.{true, false, sym, arith}
use Rattle.std.proofs.lemmas.Bool.{false≢true}
use Rattle.seq_course.proofs.Scenes.{times_begin, amid_may, amid_on, script_breaks_from}
use Rattle.seq_course.proofs.Lists.{times_left, times_more}
use Rattle.seq_course.proofs.Events.{enough}
use Rattle.seq_course.proofs.Finishes.{says_as, unsettled_more, finish_ends, finish_breaks}
use Rattle.seq_course.proofs.making.finish.Goals as goal

pub loop-made-init : goal.loop-made-init
loop-made-init g c = record {
  amid = times_begin c.args.most c.args.round.now _ c.requires.may;
  unsettled = λ d begun es led j lt. absurd (omega (arith, lt));
}

pub settled-requires-clause-hardware : goal.settled-requires-clause-hardware
settled-requires-clause-hardware g c = c.loop-made.invariant.amid.may.ready.ready.hardware

pub settled-requires-clause-fit : goal.settled-requires-clause-fit
settled-requires-clause-fit g c = c.loop-made.invariant.amid.may.ready.ready.fit

pub settled-requires-clause-lines : goal.settled-requires-clause-lines
settled-requires-clause-lines g c = enough (λ z. (goal.Line-dyn g z).line z.1) c.loop-made.lines.items _ c.loop-made.invariant.amid.may.lines

pub make-requires : goal.make-requires
make-requires g c = amid_may _ _ _ _ _ _ (times_left c.loop-made.made c.args.most c.args.round.now c.loop-made-test.true) c.loop-made.invariant.amid

pub loop-made-preserved : goal.loop-made-preserved
loop-made-preserved g c =
    let k = c.loop-made.made in
    let before = c.loop-made.invariant in
    record {
      amid = amid_on _ _ _ _ _ _ _ _ (times_left k c.args.most c.args.round.now c.loop-made-test.true) (times_more k c.args.round.now) before.amid c.in_ok-make.ensures.ok;
      unsettled = unsettled_more c.args.most _ c.args.round.now c.requires.round k _ before.amid.made before.unsettled (says_as c.settled.result false _ _ _ c.if-settled.false c.settled.ensures);
    }

pub returns-in_err-make-clause-err : goal.returns-in_err-make-clause-err
returns-in_err-make-clause-err g c =
    let before = c.loop-made.invariant in
    script_breaks_from _ _ _ _ _ c.from_residual.ensures.1
    (finish_breaks c.args.most _ c.args.round.now c.requires.round c.loop-made.made _ before.amid.made before.unsettled _ _ c.loop-made-test.true (says_as c.settled.result false _ _ _ c.if-settled.false c.settled.ensures) c.in_err-make.ensures.err)

pub returns-then-settled-clause-ok : goal.returns-then-settled-clause-ok
returns-then-settled-clause-ok g c =
    let before = c.loop-made.invariant in
    let lt = c.loop-made-test.true in
    finish_ends c.args.most _ c.args.round.now c.requires.round c.loop-made.made _ before.amid.made before.unsettled true (omega (arith, lt)) (λ e. absurd (false≢true (sym e))) (says_as c.settled.result true _ _ _ c.if-settled.true c.settled.ensures)

pub returns-clause-ok : goal.returns-clause-ok
returns-clause-ok g c =
    let before = c.loop-made.invariant in
    let past = c.loop-made-test.false in
    let within = c.loop-made.auto.made-end in
    finish_ends c.args.most _ c.args.round.now c.requires.round c.loop-made.made _ before.amid.made before.unsettled c.settled-2.result (omega (arith, within)) (λ e. omega (arith, past, within)) c.settled-2.ensures
