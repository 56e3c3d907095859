use Rattle.std.proofs.Common.{◌≡◌, ap, ◌∙◌}
use Rattle.seq_turns.specs.Causes.{finds}
use Rattle.seq_machine.specs.Here.{here, turned}
use Rattle.seq_machine.specs.Processors.{hand_left, cache_left, note_left}
use Rattle.seq_machine.specs.declared.turned.Turned.{Turned}
use Rattle.seq_machine.proofs.hardware.Processor.leave.Goals as goal

pub returns-clause-hand : goal.returns-clause-hand
returns-clause-hand c r p e =
    let m = here p c.args.self.now.cache c.args.incarnation in
    let same : c.in-Running.running ≡ r = cc in
    let left = c.found-turned.ensures p c.args.self.now.cache ∙ (λ i. turned (finds c.args.desc.now m c.args.pe.0 (same i) c.args.self.now.cache c.args.cause c.args.mask)) in
    c.take.ensures.hand ∙ ap hand_left left

pub returns-clause-cache : goal.returns-clause-cache
returns-clause-cache c r p e =
    let m = here p c.args.self.now.cache c.args.incarnation in
    let same : c.in-Running.running ≡ r = cc in
    let left = c.found-turned.ensures p c.args.self.now.cache ∙ (λ i. turned (finds c.args.desc.now m c.args.pe.0 (same i) c.args.self.now.cache c.args.cause c.args.mask)) in
    c.take.ensures.cache ∙ ap (λ (t : Turned). cache_left t c.args.self.now.cache) left

pub returns-clause-note : goal.returns-clause-note
returns-clause-note c r p e =
    let m = here p c.args.self.now.cache c.args.incarnation in
    let same : c.in-Running.running ≡ r = cc in
    let left = c.found-turned.ensures p c.args.self.now.cache ∙ (λ i. turned (finds c.args.desc.now m c.args.pe.0 (same i) c.args.self.now.cache c.args.cause c.args.mask)) in
    c.take.ensures.note ∙ ap note_left left
