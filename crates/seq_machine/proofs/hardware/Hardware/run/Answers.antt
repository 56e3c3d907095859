use Rattle.std.proofs.Common.{◌≡◌, suc, ◌+◌, ◌∙◌, arith}
use Rattle.seq_words.specs.declared.events.Event.TheVariants.{Processor}
use Rattle.seq_machine.proofs.Readiness.{numbers_fit, goes_on}
use Rattle.seq_machine.proofs.Making.{next_built, next_allowed, next_may, next_leads, led, led_shown}
use Rattle.seq_machine.proofs.hardware.Hardware.run.Goals as goal

pub event-requires-clause-hardware : goal.event-requires-clause-hardware
event-requires-clause-hardware g c = (c.loop-event.invariant.ready c.requires.ready.number c.requires.ready.ready).hardware

pub event-requires-clause-fit : goal.event-requires-clause-fit
event-requires-clause-fit g c = (c.loop-event.invariant.ready c.requires.ready.number c.requires.ready.ready).fit

pub event-requires-clause-numbers : goal.event-requires-clause-numbers
event-requires-clause-numbers g c =
    let number = c.requires.ready.number in
    let room = c.requires.ready.room in
    numbers_fit (number + c.loop-event.event-index) c.loop-event.self (omega arith) (c.loop-event.invariant.ready number c.requires.ready.ready)

pub event-requires-clause-built : goal.event-requires-clause-built
event-requires-clause-built g c =
    let may = c.loop-event.invariant.may in
    next_built c.args.events.now c.loop-event.event-index _ (omega arith) c.loop-event.self may.outside may.allowed

pub event-requires-clause-allowed : goal.event-requires-clause-allowed
event-requires-clause-allowed g c =
    let may = c.loop-event.invariant.may in
    next_allowed c.args.events.now c.loop-event.event-index _ (omega arith) c.loop-event.self may.outside may.allowed

pub event-requires-clause-lines : goal.event-requires-clause-lines
event-requires-clause-lines g c = rw c.loop-event.invariant.desc (rw c.loop-event.invariant.number c.requires.lines)

pub loop-event-preserved : goal.loop-event-preserved
loop-event-preserved g c =
    let es = c.args.events.now in
    let i = c.loop-event.event-index in
    let old = c.loop-event.self in
    let new = c.event.new.self in
    let before = c.loop-event.invariant in
    let made = c.in_ok-event.ensures in
    let built = next_built es i (Processor (record { 0 = 0 })) (omega arith) old before.may.outside before.may.allowed in
    let allowed = next_allowed es i (Processor (record { 0 = 0 })) (omega arith) old before.may.outside before.may.allowed in
    record {
      ready = λ n ready. (let on : n + (i + 1) ≡ suc (n + i) = omega arith in rw on (goes_on (n + i) old new _ _ _ (before.ready n ready) built allowed made.hardware made.desc made.fit made.machine));
      may = next_may es i (Processor (record { 0 = 0 })) (omega arith) old new _ _ _ _ made.desc made.unchecked made.machine made.outside before.may;
      leads = λ o is. next_leads es i (Processor (record { 0 = 0 })) (omega arith) old new _ _ _ _ c.args.self.now o before.desc made.machine made.outside (before.leads o is);
      hung = made.hung ∙ before.hung;
      number = made.number ∙ before.number;
      desc = made.desc ∙ before.desc;
    }

pub returns-clause-machine : goal.returns-clause-machine
returns-clause-machine g c o is = led c.args.self.now c.loop-event.self c.args.events.now c.loop-event.event-index (omega arith) _ _ o (c.loop-event.invariant.leads o is)

pub returns-clause-outside : goal.returns-clause-outside
returns-clause-outside g c o is = led_shown c.args.self.now c.loop-event.self c.args.events.now c.loop-event.event-index (omega arith) _ _ o (c.loop-event.invariant.leads o is)
