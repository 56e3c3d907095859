use Rattle.std.proofs.Common.{◌≡◌, ℕ, ◌<◌, List, None, Some, false, if◌then◌else◌, Bool, length, sym, ap, ◌∙◌, arith}
use Rattle.std.specs.Prelude.{slice_set}
use Rattle.std.proofs.lemmas.Option.{get_or_from_slice_get}
use Rattle.seq_words.specs.declared.kinds.Element.TheVariants.{Processor}
use Rattle.seq_kernel.specs.declared.outcomes.Note.TheVariants.{Stopped}
use Rattle.seq_turns.specs.Events.{is_down}
use Rattle.seq_machine.specs.declared.hardware.Processor as hardware_processor
use Rattle.seq_machine.specs.Plain.{machine_of}
use Rattle.seq_machine.specs.Checking.{answered}
use Rattle.seq_machine.proofs.Failing.{stays_down, made_answer, stopped_answer, now_stopped}
use Rattle.seq_machine.proofs.hardware.Hardware.fail_processor.Goals as goal

pub returns-then-is_down-clause-happens : goal.returns-then-is_down-clause-happens
returns-then-is_down-clause-happens c o =
    let h = c.args.self.now in
    let few : c.args.pe.0 < length h.processors = omega (arith, c.requires.hardware.processors, c.requires.processor) in
    sym (stays_down h o c.args.pe.0 few c.at.result.now c.at.ensures h.desc (sym c.is_down.ensures ∙ c.if-is_down.true))

pub returns-then-is_down-clause-answer : goal.returns-then-is_down-clause-answer
returns-then-is_down-clause-answer c o =
    let h = c.args.self.now in
    let few : c.args.pe.0 < length h.processors = omega (arith, c.requires.hardware.processors, c.requires.processor) in
    made_answer h o c.args.pe.0 few c.at.result.now c.at.ensures h.desc (sym c.is_down.ensures ∙ c.if-is_down.true)

pub returns-clause-happens : goal.returns-clause-happens
returns-clause-happens c o =
    let h = c.args.self.now in
    let few : c.args.pe.0 < length h.processors = omega (arith, c.requires.hardware.processors, c.requires.processor) in
    let numbers : c.args.pe.0 < length h.incarnations = omega (arith, c.requires.hardware.incarnations, c.requires.processor) in
    let same : c.at.result.now ≡ c.at_mut.result.now = (let read = c.at.ensures in let taken = c.at_mut.ensures.value in cc) in
    let up = ap (λ (z : hardware_processor.Processor). is_down z.hand) (sym same) ∙ sym c.is_down.ensures ∙ c.if-is_down.false in
    ap (λ (xs : List ℕ). machine_of (record h { processors = slice_set h.processors c.args.pe.0 c.stop.new.self; incarnations = xs }) o) c.set.ensures
    ∙ now_stopped h o c.args.pe.0 few c.at_mut.result.now c.at_mut.ensures.value numbers c.get-incarnation.result c.get-incarnation.ensures
    h.desc c.stop.new.self up c.stop.ensures.hand c.stop.ensures.cache

pub returns-clause-answer : goal.returns-clause-answer
returns-clause-answer c o =
    let h = c.args.self.now in
    let few : c.args.pe.0 < length h.processors = omega (arith, c.requires.hardware.processors, c.requires.processor) in
    c.answered.ensures ∙ ap (answered (Stopped (Processor c.args.pe)) (Processor c.args.pe)) (c.blocker-blocker.ensures o)
    ∙ stopped_answer h o c.args.pe.0 few c.at.result.now c.at.ensures h.desc (sym c.is_down.ensures ∙ c.if-is_down.false)
