use Rattle.std.proofs.Common.{◌≡◌, ◌<◌, length, arith, refl, sym, ap, ◌∙◌}
use Rattle.std.specs.Prelude.{slice_set}
use Rattle.std.proofs.lemmas.Option.{get_or_from_slice_get}
use Rattle.std.proofs.lemmas.List.{set-get_or}
use Rattle.seq_machine.specs.Plain.{idle_processor}
use Rattle.seq_machine.proofs.PlainTurns.{plain_machine, plain_answer, if_some}
use Rattle.seq_machine.proofs.hardware.Hardware.plain_turn.Goals as goal

pub returns-clause-goes : goal.returns-clause-goes
returns-clause-goes c =
    let h = c.args.self.now in
    let p = c.args.pe.0 in
    let few : p < length h.processors = omega (arith, c.requires.hardware.processors, c.requires.may.processor) in
    let scans : p < length h.scan = omega (arith, c.requires.hardware.scan, c.requires.may.processor) in
    let numbers : p < length h.incarnations = omega (arith, c.requires.hardware.incarnations, c.requires.may.processor) in
    let z = c.at_mut-processor.result.now in
    let is = c.at_mut-processor.ensures.value in
    if_some c.go_on.result
    (λ pid turn. record {
      machine = λ o. plain_machine h o p few scans numbers c.requires.own z c.go_on.new.self is pid turn;
      answer = λ o. plain_answer h o p few scans numbers c.requires.own z c.go_on.new.self is pid turn;
      desc = refl;
    })
    c.go_on.ensures.turn

pub returns-clause-stays : goal.returns-clause-stays
returns-clause-stays c stayed =
    let h = c.args.self.now in
    let p = c.args.pe.0 in
    let is = get_or_from_slice_get h.processors p c.at_mut-processor.result.now (idle_processor h.desc) c.at_mut-processor.ensures.value in
    let same : slice_set h.processors p c.go_on.new.self ≡ h.processors = ap (slice_set h.processors p) (c.go_on.ensures.stays stayed ∙ sym is) ∙ set-get_or h.processors p (idle_processor h.desc) in
    λ i. record h { processors = same i }
