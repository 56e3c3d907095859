use Rattle.std.proofs.Common.{◌≡◌, sym, ap, ◌∙◌}
use Rattle.seq_layout.specs.Copies.{copies}
use Rattle.seq_turns.specs.declared.hand.RecoveryAt.{RecoveryAt}
use Rattle.seq_turns.specs.Machines.{copies_after}
use Rattle.seq_turns.specs.Recoveries.{recovery_move}
use Rattle.seq_machine.specs.Here.{here}
use Rattle.seq_machine.proofs.Recovering.{move_recovers}
use Rattle.seq_machine.proofs.hardware.Processor.recover.Goals as goal

pub returns-clause-processor : goal.returns-clause-processor
returns-clause-processor c r i pe e =
    let p = copies c.args.layout.now c.args.memories.now in
    let m = here p c.args.self.now.cache i in
    let same : c.in-Recovering.recovery ≡ r = cc in
    let hand = c.recovering-self.ensures.row.hands m pe ∙ ap (λ (x : RecoveryAt). (recovery_move c.args.desc.now m pe x).hand) same in
    λ j. record { hand = hand j; cache = sym (move_recovers c.args.desc.now m pe r).cache j }

pub returns-clause-note : goal.returns-clause-note
returns-clause-note c r i pe e = sym (move_recovers c.args.desc.now (here (copies c.args.layout.now c.args.memories.now) c.args.self.now.cache i) pe r).note

pub returns-clause-copies : goal.returns-clause-copies
returns-clause-copies c r i pe e =
    let p = copies c.args.layout.now c.args.memories.now in
    let m = here p c.args.self.now.cache i in
    let same : c.in-Recovering.recovery ≡ r = cc in
    c.recovering-self.ensures.row.copies m pe ∙ ap (λ (x : RecoveryAt). copies_after (recovery_move c.args.desc.now m pe x).change p) same
