use Rattle.std.proofs.Common.{◌<◌, ◌≤◌, ◌≡◌, length, true, Ok, OnOk, IfErr, sym, ◌∙◌, ap, subst}
use Rattle.seq_flat.specs.State.{process_at}
use Rattle.seq_flat.specs.Step.{is_live, Refuses}
use Rattle.seq_flat.proofs.Cases.{steps_past, steps_ended, steps_moves, steps_calls_at, steps_traps_at}
use Rattle.seq_flat.proofs.state.FlatState.step.Goals as goal

pub returns-then-pid-len-clause-waits : goal.returns-then-pid-len-clause-waits
returns-then-pid-len-clause-waits c =
    let past : length c.args.self.now.processes ≤ c.args.pid.0 = subst (λ n. n ≤ c.args.pid.0) c.len.ensures c.if-pid-len.true in
    steps_past c.args.rights.now c.args.inputs.now.lines c.args.self.now c.args.pid.0 past

pub returns-then-not-is_live-clause-waits : goal.returns-then-not-is_live-clause-waits
returns-then-not-is_live-clause-waits c =
    let there : c.args.pid.0 < length c.args.self.now.processes = subst (λ n. c.args.pid.0 < n) c.len.ensures c.if-pid-len.false in
    steps_ended c.args.rights.now c.args.inputs.now.lines c.args.self.now c.args.pid.0 there (sym (c.if-not-is_live.ensures))

pub returns-in-Next-clause-ok : goal.returns-in-Next-clause-ok
returns-in-Next-clause-ok c =
    let there : c.args.pid.0 < length c.args.self.now.processes = subst (λ n. c.args.pid.0 < n) c.len.ensures c.if-pid-len.false in
    let live : is_live (process_at c.args.self.now c.args.pid.0).end ≡ true = sym (c.if-not-is_live.ensures) in
    steps_moves c.args.rights.now c.args.inputs.now.lines c.args.self.now c.args.pid.0 c.in-Next.wrote c.in-Next.stored c.in-Next.next there live c.in-Next.ensures.effect
    ∙ ap Ok (sym c.in-Next.ensures.state)

pub returns-in-Call-clause-ok : goal.returns-in-Call-clause-ok
returns-in-Call-clause-ok c =
    let there : c.args.pid.0 < length c.args.self.now.processes = subst (λ n. c.args.pid.0 < n) c.len.ensures c.if-pid-len.false in
    let live : is_live (process_at c.args.self.now c.args.pid.0).end ≡ true = sym (c.if-not-is_live.ensures) in
    let same = steps_calls_at c.args.rights.now c.args.inputs.now.lines c.args.self.now c.execute.new.self c.args.pid.0 c.rights_of.result there live c.in-Call.ensures.effect c.in-Call.ensures.state c.rights_of.ensures in
    subst (λ s. OnOk c.call.result (s ≡ Ok c.call.new.self)) (sym same) c.call.ensures.ok

pub returns-in-Call-clause-waits : goal.returns-in-Call-clause-waits
returns-in-Call-clause-waits c =
    let there : c.args.pid.0 < length c.args.self.now.processes = subst (λ n. c.args.pid.0 < n) c.len.ensures c.if-pid-len.false in
    let live : is_live (process_at c.args.self.now c.args.pid.0).end ≡ true = sym (c.if-not-is_live.ensures) in
    let same = steps_calls_at c.args.rights.now c.args.inputs.now.lines c.args.self.now c.execute.new.self c.args.pid.0 c.rights_of.result there live c.in-Call.ensures.effect c.in-Call.ensures.state c.rights_of.ensures in
    subst (λ s. IfErr c.call.result (Refuses s)) (sym same) c.call.ensures.waits

pub returns-in-Trap-clause-ok : goal.returns-in-Trap-clause-ok
returns-in-Trap-clause-ok c =
    let there : c.args.pid.0 < length c.args.self.now.processes = subst (λ n. c.args.pid.0 < n) c.len.ensures c.if-pid-len.false in
    let live : is_live (process_at c.args.self.now c.args.pid.0).end ≡ true = sym (c.if-not-is_live.ensures) in
    steps_traps_at c.args.rights.now c.args.inputs.now.lines c.args.self.now c.execute.new.self c.end_process.new.self c.args.pid.0 c.in-Trap.cause c.pc-pc.result there live c.in-Trap.ensures.effect c.in-Trap.ensures.state c.pc-pc.ensures c.end_process.ensures
