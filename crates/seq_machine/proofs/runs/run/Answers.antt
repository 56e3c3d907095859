use Rattle.std.proofs.Common.{◌<◌, length, arith, sym, ap, ◌∙◌}
use Rattle.seq_layout.specs.Copies.{copies}
use Rattle.seq_machine.proofs.RunTurns.{given_up, asked_for, turn_is, pid_is, may_be_saved, acquired}
use Rattle.seq_machine.proofs.Capacities.{capacity_stays}
use Rattle.seq_machine.proofs.runs.run.Goals as goal

pub comes_to-requires : goal.comes_to-requires
comes_to-requires c segment e =
    let known : segment.0 < length c.args.desc.now.segments = given_up c.args.desc.now (copies c.args.layout.now c.args.memories.now) c.args.running.now c.args.cache.now segment (sym c.step-outcome.ensures.outcome ∙ e) in
    omega arith

pub returns-clause-turn : goal.returns-clause-turn
returns-clause-turn c p i =
    let pid = pid_is c.args.desc.now (copies c.args.layout.now c.args.memories.now) c.args.running.now c.args.cache.now c.requires.description c.requires.readable c.requires.within c.requires.live c.if-running-desc.false in
    rw c.comes_to.ensures
    (turn_is c.args.desc.now (copies c.args.layout.now c.args.memories.now) c.args.running.now c.args.cache.now p i c.step-outcome.result c.step-outcome.new.r c.step-outcome.new.cache
    c.if-running-desc.false c.step-outcome.ensures.outcome c.step-outcome.ensures.running c.step-outcome.ensures.cache pid)

pub returns-clause-process : goal.returns-clause-process
returns-clause-process c =
    may_be_saved c.args.desc.now (copies c.args.layout.now c.args.memories.now) c.args.running.now c.args.cache.now c.step-outcome.new.r c.step-outcome.ensures.running c.requires.description c.requires.readable c.requires.within c.requires.process c.requires.live c.if-running-desc.false

pub returns-clause-segment : goal.returns-clause-segment
returns-clause-segment c segment e =
    asked_for c.args.desc.now (copies c.args.layout.now c.args.memories.now) c.args.running.now c.args.cache.now segment
    (sym c.step-outcome.ensures.outcome ∙ acquired c.args.running.now.held c.step-outcome.result segment (sym c.comes_to.ensures ∙ e))

pub returns-clause-pid : goal.returns-clause-pid
returns-clause-pid c =
    ap (λ r. r.pid) c.step-outcome.ensures.running
    ∙ pid_is c.args.desc.now (copies c.args.layout.now c.args.memories.now) c.args.running.now c.args.cache.now c.requires.description c.requires.readable c.requires.within c.requires.live c.if-running-desc.false

pub returns-clause-capacity : goal.returns-clause-capacity
returns-clause-capacity c =
    ap (λ k. k.capacity) c.step-outcome.ensures.cache ∙ capacity_stays c.args.desc.now (copies c.args.layout.now c.args.memories.now) c.args.running.now c.args.cache.now
