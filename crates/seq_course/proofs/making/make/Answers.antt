use Rattle.std.proofs.Common.{refl}
use Rattle.seq_words.specs.declared.events.Event.TheVariants.{Processor}
use Rattle.seq_course.proofs.Scenes.{amid_begins, amid_may, amid_on, amid_breaks, list_end, breaks_from}
use Rattle.seq_course.proofs.Lists.{left_at, next_at, split_at}
use Rattle.seq_course.proofs.making.make.Goals as goal

pub loop-event-init : goal.loop-event-init
loop-event-init g c = amid_begins _ _ c.requires

pub one-requires : goal.one-requires
one-requires g c = amid_may _ _ _ _ _ _ (left_at c.args.events.now c.loop-event.event-index (Processor (record { 0 = 0 })) _ c.loop-event-test.true refl) c.loop-event.invariant

pub loop-event-preserved : goal.loop-event-preserved
loop-event-preserved g c =
    let es = c.args.events.now in
    let i = c.loop-event.event-index in
    amid_on _ _ _ _ _ _ _ _ (left_at es i (Processor (record { 0 = 0 })) _ c.loop-event-test.true refl) (next_at es i (Processor (record { 0 = 0 })) _ c.loop-event-test.true refl) c.loop-event.invariant c.in_ok-one.ensures.ok

pub returns-in_err-one-clause-err : goal.returns-in_err-one-clause-err
returns-in_err-one-clause-err g c =
    breaks_from _ _ _ _ _ c.from_residual.ensures.1 (amid_breaks _ _ _ _ _ _ _ _ (split_at c.args.events.now c.loop-event.event-index (Processor (record { 0 = 0 })) _ c.loop-event-test.true refl) c.loop-event.invariant.made c.in_err-one.ensures.err)

pub returns-clause-ok : goal.returns-clause-ok
returns-clause-ok g c = list_end c.loop-event.event-index c.args.events.now _ _ _ c.loop-event-test.false c.loop-event.invariant
