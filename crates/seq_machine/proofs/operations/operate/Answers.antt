use Rattle.std.proofs.Common.{sym}
use Rattle.seq_layout.specs.Copies.{copies}
use Rattle.seq_machine.specs.declared.turned.Turned.TheVariants as turned
use Rattle.seq_machine.specs.Here.{here}
use Rattle.seq_machine.proofs.Rows.{claims_note, acquires_cache}
use Rattle.seq_machine.proofs.operations.operate.Goals as goal

pub returns-in-Claiming-clause-hand : goal.returns-in-Claiming-clause-hand
returns-in-Claiming-clause-hand c =
    let m = here (copies c.args.layout.now c.args.memories.now) c.args.cache.now c.args.incarnation in
    let note = claims_note c.args.desc.now m c.args.pe.0 c.in-Claiming.pid.0 c.in-Claiming.claim in
    rw c.in-Claiming.is (λ k. turned.Moved (c.claiming-hand.ensures.hand c.args.incarnation c.args.pe.0 k) (sym note k))

pub returns-in-Claiming-clause-copies : goal.returns-in-Claiming-clause-copies
returns-in-Claiming-clause-copies c = rw c.in-Claiming.is (c.claiming-hand.ensures.copies c.args.incarnation c.args.pe.0)

pub returns-in-Claiming-clause-cache : goal.returns-in-Claiming-clause-cache
returns-in-Claiming-clause-cache c = rw c.in-Claiming.is (c.claiming-hand.ensures.cache c.args.incarnation c.args.pe.0)

pub returns-in-Acquiring-clause-cache : goal.returns-in-Acquiring-clause-cache
returns-in-Acquiring-clause-cache c =
    let m = here (copies c.args.layout.now c.args.memories.now) c.args.cache.now c.args.incarnation in
    rw c.in-Acquiring.is (sym (acquires_cache c.args.desc.now m c.args.pe.0 c.in-Acquiring.running c.in-Acquiring.segment c.in-Acquiring.claim))
