use Rattle.std.proofs.Common.{◌≡◌, Option, Some, None, false, if◌then◌else◌, refl, ap, sym, ◌∙◌}
use Rattle.seq_words.specs.declared.kinds.Element.TheVariants as element
use Rattle.seq_turns.specs.Reading.{copied_memory}
use Rattle.seq_turns.specs.Machines.{Turn}
use Rattle.seq_turns.specs.Processors.{someone_amid, copies_or_waits, turn}
use Rattle.seq_turns.specs.Events.{after_turn, note_of_turn, stops}
use Rattle.seq_machine.specs.Plain.{machine_of, outside_of, processor_of}
use Rattle.seq_machine.specs.Settling.{held_copies}
use Rattle.seq_machine.specs.Processors.{copied_by}
use Rattle.seq_machine.specs.Checking.{answer_to}
use Rattle.seq_machine.proofs.Returning.{is_named, is_unnamed, copied_is, turn_copies, copying_goes_on, copying_outside}
use Rattle.seq_machine.proofs.hardware.Hardware.processor_turn.Goals as goal

pub copy_or_hold-requires-clause-needs : goal.copy_or_hold-requires-clause-needs
copy_or_hold-requires-clause-needs c =
    let h = c.args.self.now in
    let hand = (processor_of h c.args.pe.0).hand in
    let found = copied_memory h.desc (held_copies h) in
    let by : copied_by found hand ≡ Some c.in-Some.me.0 = is_named (copied_by found hand) c.in-Some.me (sym c.in-Some.is ∙ c.copied_by.ensures) in
    c.requires.may.copying c.in-Some.me.0 (copied_is found c.in-Some.me.0 _ hand refl by)

pub returns-in-Some-clause-machine : goal.returns-in-Some-clause-machine
returns-in-Some-clause-machine c o =
    let h = c.args.self.now in
    let m = machine_of h o in
    let p = c.args.pe.0 in
    let i = c.in-Some.me.0 in
    let hand = (processor_of h p).hand in
    let found = copied_memory h.desc (held_copies h) in
    let by : copied_by found hand ≡ Some i = is_named (copied_by found hand) c.in-Some.me (sym c.in-Some.is ∙ c.copied_by.ensures) in
    let table : turn h.desc m p hand ≡ copies_or_waits m p i (someone_amid h.desc m) = turn_copies h.desc m p i hand by in
    let same : outside_of (after_turn h.desc m p (turn h.desc m p hand)) ≡ o = ap (λ (t : Turn). outside_of (after_turn h.desc m p t)) table ∙ copying_outside h.desc m p i (someone_amid h.desc m) in
    ap (machine_of c.copy_or_hold.new.self) same ∙ c.copy_or_hold.ensures.machine o p ∙ ap (after_turn h.desc m p) (sym table)

pub returns-in-Some-clause-answer : goal.returns-in-Some-clause-answer
returns-in-Some-clause-answer c o =
    let h = c.args.self.now in
    let m = machine_of h o in
    let p = c.args.pe.0 in
    let i = c.in-Some.me.0 in
    let hand = (processor_of h p).hand in
    let found = copied_memory h.desc (held_copies h) in
    let by : copied_by found hand ≡ Some i = is_named (copied_by found hand) c.in-Some.me (sym c.in-Some.is ∙ c.copied_by.ensures) in
    let table : turn h.desc m p hand ≡ copies_or_waits m p i (someone_amid h.desc m) = turn_copies h.desc m p i hand by in
    let same : note_of_turn p (turn h.desc m p hand) ≡ c.copy_or_hold.result = ap (note_of_turn p) table ∙ sym (c.copy_or_hold.ensures.note o p) in
    let goes : stops (turn h.desc m p hand) ≡ false = ap stops table ∙ copying_goes_on h.desc m p i (someone_amid h.desc m) in
    λ j. answer_to (sym same j) h.desc m (if sym goes j then Some (element.Processor c.args.pe) else None)

pub plain_or_own_turn-requires-clause-own : goal.plain_or_own_turn-requires-clause-own
plain_or_own_turn-requires-clause-own c =
    let h = c.args.self.now in
    is_unnamed (copied_by (copied_memory h.desc (held_copies h)) (processor_of h c.args.pe.0).hand) (sym c.in-None.is ∙ c.copied_by.ensures)
