use Rattle.std.proofs.Common.{sym, ◌∙◌, ap}
use Rattle.seq_layout.specs.Copies.{copies}
use Rattle.seq_kernel.specs.Turns.{Turned}
use Rattle.seq_kernel.proofs.Causes.{called, claims_exactly, waits_exactly, flushes_exactly, diverges_exactly, stays_exactly}
use Rattle.seq_kernel.proofs.calls.call.Goals as goal

-- the halves agree
pub returns : goal.returns
returns c =
    let d = c.args.desc.now in
    let p = copies c.args.layout.now c.args.memories.now in
    let r = c.args.r.now in
    let k = c.args.cache.now in
    let call = sym (called d p r k (sym c.agree.ensures.value ∙ c.if-not-agree.false)) in
    let outcome = c.numbered.ensures.outcome ∙ ap (λ (t : Turned). t.outcome) call in
    let running = c.numbered.ensures.running ∙ ap (λ (t : Turned). t.running) call in
    let cache = c.numbered.ensures.cache ∙ ap (λ (t : Turned). t.cache) call in
    record {
      outcome = outcome;
      running = running;
      cache = cache;
      diverged = diverges_exactly d p r k c.numbered.result outcome;
      claims = claims_exactly d p r k c.numbered.result outcome;
      waits = waits_exactly d p r k c.numbered.result outcome;
      flushes = flushes_exactly d p r k c.numbered.result outcome;
      running_stays = λ none. running ∙ (stays_exactly d p r k c.numbered.result outcome none).running;
      cache_stays = λ none. cache ∙ (stays_exactly d p r k c.numbered.result outcome none).cache;
    }
