use Rattle.std.proofs.Common.{ap, sym, ◌∙◌, arith}
use Rattle.seq_layout.specs.Copies.{copies}
use Rattle.seq_turns.specs.Machines.{Move}
use Rattle.seq_machine.specs.Here.{here}
use Rattle.seq_machine.proofs.Rows.{claims_got, claims_refused, claims_copies}
use Rattle.seq_machine.proofs.claims.claiming.Goals as goal

pub returns-in-Got-clause-hand : goal.returns-in-Got-clause-hand
returns-in-Got-clause-hand c i p =
    let m = here (copies c.args.layout.now c.args.memories.now) c.args.cache.now i in
    c.take_up-taken_up.ensures c.args.cache.now i ∙ sym (ap (λ (x : Move). x.hand) (claims_got c.args.desc.now m p c.args.pid.0 c.args.claim c.args.layout.now c.requires.layout c.in-Got.field-0 c.in-Got.ensures.state))

pub returns-in-Got-clause-cache : goal.returns-in-Got-clause-cache
returns-in-Got-clause-cache c i p =
    let m = here (copies c.args.layout.now c.args.memories.now) c.args.cache.now i in
    let row = ap (λ (x : Move). x.cache) (claims_got c.args.desc.now m p c.args.pid.0 c.args.claim c.args.layout.now c.requires.layout c.in-Got.field-0 c.in-Got.ensures.state) in
    grind (arith, row)

pub returns-in-Got-clause-copies : goal.returns-in-Got-clause-copies
returns-in-Got-clause-copies c i p =
    let m = here (copies c.args.layout.now c.args.memories.now) c.args.cache.now i in
    c.turn.ensures.copies ∙ claims_copies c.args.desc.now m p c.args.pid.0 c.args.claim c.args.layout.now c.requires.layout

pub returns-in-Refused-clause-hand : goal.returns-in-Refused-clause-hand
returns-in-Refused-clause-hand c i p =
    let m = here (copies c.args.layout.now c.args.memories.now) c.args.cache.now i in
    sym (ap (λ (x : Move). x.hand) (claims_refused c.args.desc.now m p c.args.pid.0 c.args.claim c.args.layout.now c.requires.layout c.in-Refused.field-0 c.in-Refused.ensures.state))

pub returns-in-Refused-clause-cache : goal.returns-in-Refused-clause-cache
returns-in-Refused-clause-cache c i p =
    let m = here (copies c.args.layout.now c.args.memories.now) c.args.cache.now i in
    sym (ap (λ (x : Move). x.cache) (claims_refused c.args.desc.now m p c.args.pid.0 c.args.claim c.args.layout.now c.requires.layout c.in-Refused.field-0 c.in-Refused.ensures.state))

pub returns-in-Refused-clause-copies : goal.returns-in-Refused-clause-copies
returns-in-Refused-clause-copies c i p =
    let m = here (copies c.args.layout.now c.args.memories.now) c.args.cache.now i in
    c.turn.ensures.copies ∙ claims_copies c.args.desc.now m p c.args.pid.0 c.args.claim c.args.layout.now c.requires.layout
