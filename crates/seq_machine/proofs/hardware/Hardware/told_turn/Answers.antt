use Rattle.std.proofs.Common.{◌≡◌, List, inr, ap, sym, ◌∙◌, subst}
use Rattle.seq_words.specs.declared.events.Entry.{Entry}
use Rattle.seq_words.specs.declared.events.Event.TheVariants as event
use Rattle.seq_shelf.specs.Told.{Grows}
use Rattle.seq_turns.specs.Events.{note}
use Rattle.seq_machine.specs.Plain.{machine_of}
use Rattle.seq_machine.specs.Starting.{no_outside}
use Rattle.seq_machine.proofs.EventParts.{turn_unsent}
use Rattle.seq_machine.proofs.Answering.{on_ok, answers, left_made, ends_checked, same_stays, chronicle_leaves, told_entries, told_unsent, checked_entries}
use Rattle.seq_machine.proofs.hardware.Hardware.told_turn.Goals as goal

pub returns-clause-machine : goal.returns-clause-machine
returns-clause-machine g c o = on_ok c.processor_turn.result (c.processor_turn.ensures.machine o)

pub returns-clause-note : goal.returns-clause-note
returns-clause-note g c o =
    let h = c.args.self.now in
    (answers h.desc (machine_of h o) (event.Processor c.args.pe) h c.processor_turn.new.self c.processor_turn.result (c.processor_turn.ensures.answer o)).noted

pub returns-clause-unchecked : goal.returns-clause-unchecked
returns-clause-unchecked g c o =
    let h = c.args.self.now in
    (answers h.desc (machine_of h o) (event.Processor c.args.pe) h c.processor_turn.new.self c.processor_turn.result (c.processor_turn.ensures.answer o)).unchecked

pub returns-clause-entries : goal.returns-clause-entries
returns-clause-entries g c =
    let h = c.args.self.now in
    let m = machine_of h no_outside in
    let made = answers h.desc m (event.Processor c.args.pe) h c.processor_turn.new.self c.processor_turn.result (c.processor_turn.ensures.answer no_outside) in
    told_entries (note h.desc m (event.Processor c.args.pe)) c.processor_turn.result _ _ made.noted
    (subst (λ (xs : List Entry). Grows (g.C.Chronicle.chronicle c.args.chronicle.now).told (g.C.Chronicle.chronicle c.tell.new.chronicle).told xs) (c.commit-entry.ensures no_outside) c.in_ok-tell.ensures.ok)

pub returns-clause-unsent : goal.returns-clause-unsent
returns-clause-unsent g c =
    let h = c.args.self.now in
    let m = machine_of h no_outside in
    let made = answers h.desc m (event.Processor c.args.pe) h c.processor_turn.new.self c.processor_turn.result (c.processor_turn.ensures.answer no_outside) in
    told_unsent (note h.desc m (event.Processor c.args.pe)) c.processor_turn.result made.noted (turn_unsent h c.args.pe.0 no_outside)

pub returns-clause-stays : goal.returns-clause-stays
returns-clause-stays g c =
    let h = c.args.self.now in
    (answers h.desc (machine_of h no_outside) (event.Processor c.args.pe) h c.processor_turn.new.self c.processor_turn.result (c.processor_turn.ensures.answer no_outside)).stays

pub returns-clause-stopped : goal.returns-clause-stopped
returns-clause-stopped g c o =
    let h = c.args.self.now in
    let made = answers h.desc (machine_of h o) (event.Processor c.args.pe) h c.processor_turn.new.self c.processor_turn.result (c.processor_turn.ensures.answer o) in
    left_made h c.processor_turn.new.self o h.desc (event.Processor c.args.pe) c.processor_turn.result made.left (c.processor_turn.ensures.machine o)

pub returns-clause-err_entries : goal.returns-clause-err_entries
returns-clause-err_entries g c =
    let h = c.args.self.now in
    let m = machine_of h no_outside in
    let made = answers h.desc m (event.Processor c.args.pe) h c.processor_turn.new.self c.processor_turn.result (c.processor_turn.ensures.answer no_outside) in
    checked_entries h.desc m (event.Processor c.args.pe) c.processor_turn.result _ _ made.checked
    (subst (λ (xs : List Entry). Grows (g.C.Chronicle.chronicle c.args.chronicle.now).told (g.C.Chronicle.chronicle c.tell.new.chronicle).told xs) (c.commit-entry.ensures no_outside) c.in_ok-tell.ensures.ok)

pub returns-clause-cause : goal.returns-clause-cause
returns-clause-cause g c o before after =
    let h = c.args.self.now in
    let made = answers h.desc (machine_of h o) (event.Processor c.args.pe) h c.processor_turn.new.self c.processor_turn.result (c.processor_turn.ensures.answer o) in
    ends_checked h h o h.desc (event.Processor c.args.pe) c.processor_turn.result before after _ _ made.checked
