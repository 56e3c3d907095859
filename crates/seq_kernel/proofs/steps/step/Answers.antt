use Rattle.std.proofs.Common.{sym, ap, ◌∙◌, subst}
use Rattle.seq_layout.specs.Copies.{copies}
use Rattle.seq_kernel.specs.Steps.{pair_turn, step_of}
use Rattle.seq_kernel.specs.Bounds.{IsRunning}
use Rattle.seq_kernel.proofs.Plainly.{call_agreed, called}
use Rattle.seq_kernel.proofs.steps.step.Goals as goal

pub call-requires-clause-running : goal.call-requires-clause-running
call-requires-clause-running c =
    let d = c.args.desc.now in
    let p = copies c.args.layout.now c.args.memories.now in
    let t = pair_turn d p c.args.r.now c.args.cache.now in
    let same = called d p c.args.r.now c.turn.new.r c.args.cache.now c.turn.new.cache t (call_agreed t (sym c.turn.ensures.kind ∙ c.in-Call.is)) c.turn.ensures.running c.turn.ensures.cache in
    subst (λ r. IsRunning d r) (sym same.0) c.requires.running

pub returns-in-Call-clause-running : goal.returns-in-Call-clause-running
unfolding step_of
returns-in-Call-clause-running c =
    let d = c.args.desc.now in
    let p = copies c.args.layout.now c.args.memories.now in
    let t = pair_turn d p c.args.r.now c.args.cache.now in
    let same = called d p c.args.r.now c.turn.new.r c.args.cache.now c.turn.new.cache t (call_agreed t (sym c.turn.ensures.kind ∙ c.in-Call.is)) c.turn.ensures.running c.turn.ensures.cache in
    c.call.ensures.running ∙ ap (λ x. x.running) same.1

pub returns-in-Call-clause-cache : goal.returns-in-Call-clause-cache
unfolding step_of
returns-in-Call-clause-cache c =
    let d = c.args.desc.now in
    let p = copies c.args.layout.now c.args.memories.now in
    let t = pair_turn d p c.args.r.now c.args.cache.now in
    let same = called d p c.args.r.now c.turn.new.r c.args.cache.now c.turn.new.cache t (call_agreed t (sym c.turn.ensures.kind ∙ c.in-Call.is)) c.turn.ensures.running c.turn.ensures.cache in
    c.call.ensures.cache ∙ ap (λ x. x.cache) same.1
