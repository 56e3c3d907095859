use Rattle.std.proofs.Common.{◌≡◌, ◌≤◌, ◌-◌, true, length, ap, sym, ◌∙◌, subst, arith}
use Rattle.seq_layout.specs.Shapes.{Shape}
use Rattle.seq_layout.specs.Copies.{copies}
use Rattle.seq_locks.specs.Turns.{is_taken, word_at}
use Rattle.seq_kernel.specs.declared.outcomes.Cause.TheVariants.{Wait}
use Rattle.seq_kernel.specs.declared.outcomes.Reason.TheVariants.{Lock}
use Rattle.seq_turns.specs.Causes.{finds}
use Rattle.seq_machine.specs.Here.{here, turned}
use Rattle.seq_machine.proofs.Rows.{refused_taken, acquires_got, acquires_refused, acquires_copies}
use Rattle.seq_machine.proofs.claims.acquiring.Goals as goal

pub overflow_cast-reason : goal.overflow_cast-reason
overflow_cast-reason c =
    let seen = refused_taken c.args.layout.now (copies c.args.layout.now c.args.memories.now) c.args.claim c.in-Refused.seen c.in-Refused.ensures.state in
    let taken = subst (λ (x : Shape). is_taken x (copies c.args.layout.now c.args.memories.now) c.args.claim.at true ≡ true) c.requires.layout seen.0 in
    let below : word_at (copies c.args.layout.now c.args.memories.now) c.args.claim.at true ≤ length c.args.desc.now.processes = c.requires.needs.named taken in
    omega (arith, seen.1, below, c.requires.description.processes.high_at)

pub returns-in-Got-clause-hand : goal.returns-in-Got-clause-hand
returns-in-Got-clause-hand c cache =
    let m = here (copies c.args.layout.now c.args.memories.now) cache c.args.incarnation in
    rw c.grant.ensures (sym (ap turned (acquires_got c.args.desc.now m c.args.pe.0 c.args.running c.args.segment c.args.claim c.args.layout.now c.requires.layout c.in-Got.field-0 c.in-Got.ensures.state)))

pub returns-in-Got-clause-copies : goal.returns-in-Got-clause-copies
returns-in-Got-clause-copies c cache =
    let m = here (copies c.args.layout.now c.args.memories.now) cache c.args.incarnation in
    c.turn.ensures.copies ∙ acquires_copies c.args.desc.now m c.args.pe.0 c.args.running c.args.segment c.args.claim c.args.layout.now c.requires.layout

pub returns-in-Refused-clause-hand : goal.returns-in-Refused-clause-hand
returns-in-Refused-clause-hand c cache =
    let m = here (copies c.args.layout.now c.args.memories.now) cache c.args.incarnation in
    let seen = refused_taken c.args.layout.now (copies c.args.layout.now c.args.memories.now) c.args.claim c.in-Refused.seen c.in-Refused.ensures.state in
    let row = acquires_refused c.args.desc.now m c.args.pe.0 c.args.running c.args.segment c.args.claim c.args.layout.now c.requires.layout c.in-Refused.seen c.in-Refused.ensures.state in
    c.found.ensures (copies c.args.layout.now c.args.memories.now) cache ∙
    (ap (λ v. turned (finds c.args.desc.now m c.args.pe.0 c.args.running cache (Wait (Lock c.args.segment (record { 0 = v - 1 }))) 0)) seen.1 ∙ sym (ap turned row))

pub returns-in-Refused-clause-copies : goal.returns-in-Refused-clause-copies
returns-in-Refused-clause-copies c cache =
    let m = here (copies c.args.layout.now c.args.memories.now) cache c.args.incarnation in
    c.turn.ensures.copies ∙ acquires_copies c.args.desc.now m c.args.pe.0 c.args.running c.args.segment c.args.claim c.args.layout.now c.requires.layout
