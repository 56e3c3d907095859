use Rattle.std.proofs.Common.{◌+◌, ◌<◌, ◌≡◌, length, ap, sym, ◌∙◌, subst, arith}
use Rattle.std.specs.Prelude.{slice_set, slice_index}
use Rattle.std.proofs.lemmas.Option.{get_or_from_slice_get}
use Rattle.seq_layout.specs.Copies.{Copies, copies}
use Rattle.seq_machine.specs.Checking.{MayBeChecked}
use Rattle.seq_machine.specs.Processors.{incarnations_after}
use Rattle.seq_ruling.specs.Checks.{blocker_of}
use Rattle.seq_words.specs.declared.kinds.Element.TheVariants.{Processor}
use Rattle.seq_layout.specs.Shapes.{shape_of}
use Rattle.seq_machine.specs.Starting.{no_outside}
use Rattle.seq_machine.proofs.Tied.{turn_made, turn_moves, turn_stops, stop_keeps}
use Rattle.seq_machine.proofs.hardware.Hardware.own_turn.Goals as goal

pub returns-in-Some-clause-machine : goal.returns-in-Some-clause-machine
returns-in-Some-clause-machine c o =
    let h = c.args.self.now in
    let pe = c.args.pe.0 in
    let few : pe < length h.processors = omega (arith, c.requires.hardware.processors, c.requires.may.processor) in
    let scans : pe < length h.scan = omega (arith, c.requires.hardware.scan, c.requires.may.processor) in
    let numbers : pe < length h.incarnations = omega (arith, c.requires.hardware.incarnations, c.requires.may.processor) in
    turn_made h o pe few scans numbers c.requires.own
    c.at_mut-processor.result.now c.as_slice.result.now c.at_mut-cursor.result.now c.at_mut-processor.ensures.value c.as_slice.ensures c.at_mut-cursor.ensures.value
    c.turn-note.result c.turn-note.ensures.note
    c.turn-note.new.self c.turn-note.new.cursor c.turn-note.new.memories h.incarnations
    c.turn-note.ensures.processor c.turn-note.ensures.cursor c.turn-note.ensures.copies (ap (λ n. incarnations_after n h.incarnations pe) (sym c.in-Some.is))

pub returns-in-None-clause-machine : goal.returns-in-None-clause-machine
returns-in-None-clause-machine c o =
    let h = c.args.self.now in
    let pe = c.args.pe.0 in
    let few : pe < length h.processors = omega (arith, c.requires.hardware.processors, c.requires.may.processor) in
    let scans : pe < length h.scan = omega (arith, c.requires.hardware.scan, c.requires.may.processor) in
    let numbers : pe < length h.incarnations = omega (arith, c.requires.hardware.incarnations, c.requires.may.processor) in
    let stopped = c.set.ensures ∙ ap (λ i. slice_set h.incarnations pe (i + 1)) (sym (get_or_from_slice_get h.incarnations pe c.get-incarnation.result 0 c.get-incarnation.ensures)) in
    turn_made h o pe few scans numbers c.requires.own
    c.at_mut-processor.result.now c.as_slice.result.now c.at_mut-cursor.result.now c.at_mut-processor.ensures.value c.as_slice.ensures c.at_mut-cursor.ensures.value
    c.turn-note.result c.turn-note.ensures.note
    c.turn-note.new.self c.turn-note.new.cursor c.turn-note.new.memories c.set.new.self
    c.turn-note.ensures.processor c.turn-note.ensures.cursor c.turn-note.ensures.copies (stopped ∙ ap (λ n. incarnations_after n h.incarnations pe) (sym c.in-None.is))

pub returns-in-Some-clause-answer : goal.returns-in-Some-clause-answer
returns-in-Some-clause-answer c o =
    let h = c.args.self.now in
    let pe = c.args.pe.0 in
    let few : pe < length h.processors = omega (arith, c.requires.hardware.processors, c.requires.may.processor) in
    let scans : pe < length h.scan = omega (arith, c.requires.hardware.scan, c.requires.may.processor) in
    let numbers : pe < length h.incarnations = omega (arith, c.requires.hardware.incarnations, c.requires.may.processor) in
    turn_moves h o pe few scans numbers c.requires.own
    c.at_mut-processor.result.now c.as_slice.result.now c.at_mut-cursor.result.now c.at_mut-processor.ensures.value c.as_slice.ensures c.at_mut-cursor.ensures.value
    c.turn-note.result c.turn-note.ensures.note
    c.in-Some.note c.in-Some.is

pub blocker-blocker-requires-clause-checked : goal.blocker-blocker-requires-clause-checked
blocker-blocker-requires-clause-checked c =
    let h = c.args.self.now in
    let pe = c.args.pe.0 in
    let few : pe < length h.processors = omega (arith, c.requires.hardware.processors, c.requires.may.processor) in
    let scans : pe < length h.scan = omega (arith, c.requires.hardware.scan, c.requires.may.processor) in
    let numbers : pe < length h.incarnations = omega (arith, c.requires.hardware.incarnations, c.requires.may.processor) in
    let same = stop_keeps h no_outside pe few scans numbers c.requires.own
    c.at_mut-processor.result.now c.as_slice.result.now c.at_mut-cursor.result.now c.at_mut-processor.ensures.value c.as_slice.ensures c.at_mut-cursor.ensures.value
    c.turn-note.result c.turn-note.ensures.note
    c.turn-note.new.memories c.in-None.is c.turn-note.ensures.copies in
    subst (λ (p : Copies). MayBeChecked h.desc p) (sym same) c.requires.may.checked

pub returns-in-None-clause-answer : goal.returns-in-None-clause-answer
returns-in-None-clause-answer c o =
    let h = c.args.self.now in
    let pe = c.args.pe.0 in
    let few : pe < length h.processors = omega (arith, c.requires.hardware.processors, c.requires.may.processor) in
    let scans : pe < length h.scan = omega (arith, c.requires.hardware.scan, c.requires.may.processor) in
    let numbers : pe < length h.incarnations = omega (arith, c.requires.hardware.incarnations, c.requires.may.processor) in
    let same = stop_keeps h o pe few scans numbers c.requires.own
    c.at_mut-processor.result.now c.as_slice.result.now c.at_mut-cursor.result.now c.at_mut-processor.ensures.value c.as_slice.ensures c.at_mut-cursor.ensures.value
    c.turn-note.result c.turn-note.ensures.note
    c.turn-note.new.memories c.in-None.is c.turn-note.ensures.copies in
    c.answered.ensures ∙ turn_stops h o pe few scans numbers c.requires.own
    c.at_mut-processor.result.now c.as_slice.result.now c.at_mut-cursor.result.now c.at_mut-processor.ensures.value c.as_slice.ensures c.at_mut-cursor.ensures.value
    c.turn-note.result c.turn-note.ensures.note
    c.blocker-blocker.result c.in-None.is
    (c.blocker-blocker.ensures o ∙ ap (λ (p : Copies). blocker_of (shape_of h.desc) p (slice_index h.incarnations) (Processor c.args.pe)) same)
