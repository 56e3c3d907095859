use Rattle.std.proofs.Common.{sym, ap}
use Rattle.seq_layout.specs.Copies.{copies}
use Rattle.seq_kernel.specs.declared.outcomes.Outcome.TheVariants.{Done}
use Rattle.seq_machine.proofs.RunTurns.{turn_is, pid_is}
use Rattle.seq_machine.proofs.plainly.go_on.Goals as goal

pub returns-then-running-desc-clause-turn : goal.returns-then-running-desc-clause-turn
returns-then-running-desc-clause-turn c taken p i =
    let d = c.args.desc.now in
    let copies = copies c.args.layout.now c.args.memories.now in
    let step = c.step_plainly.ensures.step taken in
    turn_is d copies c.args.running.now c.args.cache.now p i Done c.step_plainly.new.r c.step_plainly.new.cache c.if-running-desc.true
    (sym (ap (λ t. t.outcome) step)) (sym (ap (λ t. t.running) step)) (sym (ap (λ t. t.cache) step))
    (pid_is d copies c.args.running.now c.args.cache.now c.requires.description c.requires.readable c.requires.within c.requires.live c.if-running-desc.true)
