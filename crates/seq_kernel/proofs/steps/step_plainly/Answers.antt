use Rattle.std.proofs.Common.{◌≡◌, sym, ap, ◌∙◌}
use Rattle.std.proofs.lemmas.Bool.{false≢true}
use Rattle.seq_layout.specs.Copies.{copies}
use Rattle.seq_kernel.specs.declared.outcomes.Outcome.TheVariants.{Done}
use Rattle.seq_kernel.specs.declared.steps.Kind.TheVariants as kind
use Rattle.seq_kernel.specs.Turns.{counted}
use Rattle.seq_kernel.specs.Steps.{kind_of, pair_turn, step_of}
use Rattle.seq_kernel.proofs.Plainly.{plain_step, made_plain, left_alone, other_kinds}
use Rattle.seq_kernel.proofs.steps.step_plainly.Goals as goal

pub returns-in-Made-clause-step : goal.returns-in-Made-clause-step
unfolding step_of
returns-in-Made-clause-step c taken =
    let d = c.args.desc.now in
    let p = copies c.args.layout.now c.args.memories.now in
    let t = pair_turn d p c.args.r.now c.args.cache.now in
    let made : kind_of t ≡ kind.Made = sym c.turn.ensures.kind ∙ c.in-Made.is in
    plain_step d p c.args.r.now c.args.cache.now t (made_plain t made)
    ∙ (λ i. record { outcome = Done; running = sym (c.count.ensures ∙ ap counted c.turn.ensures.running) i; cache = sym c.turn.ensures.cache i })

pub returns-in-Call : goal.returns-in-Call
returns-in-Call c =
    let d = c.args.desc.now in
    let p = copies c.args.layout.now c.args.memories.now in
    let same = left_alone d p c.args.r.now c.args.cache.now (pair_turn d p c.args.r.now c.args.cache.now) c.turn.result (sym c.turn.ensures.kind) (other_kinds c.turn.result c.in-Call.is) in
    record { plain = sym same.0; step = λ e. absurd (false≢true e); running = λ _. c.turn.ensures.running ∙ same.1; cache = λ _. c.turn.ensures.cache ∙ same.2 }
