use Rattle.std.proofs.Common.{◌≡◌, [], refl, ap, sym, ◌∙◌, subst}
use Rattle.seq_words.specs.declared.events.Event.TheVariants as event
use Rattle.seq_kernel.specs.declared.outcomes.Note.{Note}
use Rattle.seq_turns.specs.Events.{note}
use Rattle.seq_machine.specs.declared.hardware.Hardware.{Hardware}
use Rattle.seq_machine.specs.Plain.{machine_of, IsOutside}
use Rattle.seq_machine.specs.Starting.{no_outside}
use Rattle.seq_machine.proofs.Turnable.{may_turn}
use Rattle.seq_machine.proofs.Unchanged.{accept_same, is_shown}
use Rattle.seq_machine.proofs.Failing.{failure_outside, failure_made, repair_outside, repair_made, failure_tells}
use Rattle.seq_machine.proofs.Answering.{on_ok, on_err, answers, left_made, ends_checked, line_stays, line_leaves, silent_sent, silent_entries}
use Rattle.seq_machine.proofs.EventParts.{io_sent_shown, io_entries_shown, io_ends, may_serve, may_be_checked, made_fits, call_fits}
use Rattle.seq_machine.proofs.hardware.Hardware.event.Goals as goal

pub told_turn-requires-clause-may : goal.told_turn-requires-clause-may
told_turn-requires-clause-may g c = may_turn c.args.self.now c.in-Processor.pe.0 c.requires.hardware c.requires.fit c.requires.numbers (rw c.in-Processor.is at c.requires.allowed)

pub io_turn-requires-clause-serves : goal.io_turn-requires-clause-serves
io_turn-requires-clause-serves g c = may_serve c.args.self.now.desc (machine_of c.args.self.now no_outside) c.in-Io.io.0 c.requires.hardware.described c.requires.fit (rw c.in-Io.is at c.requires.allowed)

pub fail-requires-clause-checked : goal.fail-requires-clause-checked
fail-requires-clause-checked g c = may_be_checked c.args.self.now.desc (machine_of c.args.self.now no_outside) c.requires.hardware.described c.requires.fit

pub returns-in-Processor-clause-machine : goal.returns-in-Processor-clause-machine
returns-in-Processor-clause-machine g c o is = rw c.in-Processor.is (c.told_turn.ensures.machine o)

pub returns-in-Processor-clause-note : goal.returns-in-Processor-clause-note
returns-in-Processor-clause-note g c o is = rw c.in-Processor.is (c.told_turn.ensures.note o)

pub returns-in-Processor-clause-unchecked : goal.returns-in-Processor-clause-unchecked
returns-in-Processor-clause-unchecked g c o is = rw c.in-Processor.is (c.told_turn.ensures.unchecked o)

pub returns-in-Processor-clause-stopped : goal.returns-in-Processor-clause-stopped
returns-in-Processor-clause-stopped g c o is = rw c.in-Processor.is (c.told_turn.ensures.stopped o)

pub returns-in-Processor-clause-cause : goal.returns-in-Processor-clause-cause
returns-in-Processor-clause-cause g c o is = rw c.in-Processor.is (c.told_turn.ensures.cause o _ _)

pub returns-in-Processor-clause-fit : goal.returns-in-Processor-clause-fit
returns-in-Processor-clause-fit g c =
    call_fits c.args.self.now c.told_turn.new.self (event.Processor c.in-Processor.pe) c.requires.hardware.described c.requires.fit tt (rw c.in-Processor.is at c.requires.allowed)
    c.told_turn.result no_outside c.told_turn.ensures.desc (c.told_turn.ensures.unchecked no_outside) (c.told_turn.ensures.machine no_outside)

pub returns-in-Io-clause-machine : goal.returns-in-Io-clause-machine
returns-in-Io-clause-machine g c o is = rw c.in-Io.is (c.io_turn.ensures.machine o is)

pub returns-in-Io-clause-note : goal.returns-in-Io-clause-note
returns-in-Io-clause-note g c o is = rw c.in-Io.is (c.io_turn.ensures.note o is)

pub returns-in-Io-clause-unchecked : goal.returns-in-Io-clause-unchecked
returns-in-Io-clause-unchecked g c o is = rw c.in-Io.is (on_ok c.io_turn.result refl)

pub returns-in-Io-clause-sent : goal.returns-in-Io-clause-sent
returns-in-Io-clause-sent g c = io_sent_shown c.args.self.now c.in-Io.io.0 c.io_turn.result _ _ _ c.io_turn.ensures.sent c.io_turn.ensures.note

pub returns-in-Io-clause-entries : goal.returns-in-Io-clause-entries
returns-in-Io-clause-entries g c = io_entries_shown c.args.self.now c.in-Io.io.0 c.io_turn.result _ _ _ c.io_turn.ensures.note

pub returns-in-Io-clause-outside : goal.returns-in-Io-clause-outside
returns-in-Io-clause-outside g c o is = rw c.in-Io.is (c.io_turn.ensures.outside o is)

pub returns-in-Io-clause-stays : goal.returns-in-Io-clause-stays
returns-in-Io-clause-stays g c = line_stays c.args.self.now c.io_turn.new.self no_outside c.args.self.now.desc (event.Io c.in-Io.io) c.io_turn.result c.io_turn.ensures.err

pub returns-in-Io-clause-stopped : goal.returns-in-Io-clause-stopped
returns-in-Io-clause-stopped g c o is = rw c.in-Io.is (line_leaves c.args.self.now c.io_turn.new.self o c.args.self.now.desc (event.Io c.in-Io.io) c.io_turn.result _ _ _ c.io_turn.ensures.cause c.io_turn.ensures.err)

pub returns-in-Io-clause-cause : goal.returns-in-Io-clause-cause
returns-in-Io-clause-cause g c o is = rw c.in-Io.is (io_ends c.args.self.now.desc (machine_of c.args.self.now o) c.in-Io.io.0 c.io_turn.result _ _ _ _ (c.io_turn.ensures.sending o is) c.io_turn.ensures.cause)

pub returns-in-Io-clause-fit : goal.returns-in-Io-clause-fit
returns-in-Io-clause-fit g c =
    call_fits c.args.self.now c.io_turn.new.self (event.Io c.in-Io.io) c.requires.hardware.described c.requires.fit tt (rw c.in-Io.is at c.requires.allowed)
    c.io_turn.result _ c.io_turn.ensures.desc (on_ok c.io_turn.result refl) (c.io_turn.ensures.machine _ (is_shown _ _))

pub returns-in-Input-clause-machine : goal.returns-in-Input-clause-machine
returns-in-Input-clause-machine g c o is = rw c.in-Input.is (c.input.ensures.happens o)

pub returns-in-Input-clause-unchecked : goal.returns-in-Input-clause-unchecked
returns-in-Input-clause-unchecked g c o is = rw c.in-Input.is refl

pub returns-in-Input-clause-fit : goal.returns-in-Input-clause-fit
returns-in-Input-clause-fit g c =
    made_fits c.args.self.now c.input.new.self (event.Input c.in-Input.line c.in-Input.byte) c.requires.hardware.described c.requires.fit tt (rw c.in-Input.is at c.requires.allowed)
    no_outside (ap (λ (h : Hardware). h.desc) c.input.ensures.rest) refl (c.input.ensures.happens no_outside)

pub returns-in-Close-clause-machine : goal.returns-in-Close-clause-machine
returns-in-Close-clause-machine g c o is = rw c.in-Close.is (c.close.ensures.happens o)

pub returns-in-Close-clause-unchecked : goal.returns-in-Close-clause-unchecked
returns-in-Close-clause-unchecked g c o is = rw c.in-Close.is refl

pub returns-in-Close-clause-fit : goal.returns-in-Close-clause-fit
returns-in-Close-clause-fit g c =
    made_fits c.args.self.now c.close.new.self (event.Close c.in-Close.line) c.requires.hardware.described c.requires.fit tt (rw c.in-Close.is at c.requires.allowed)
    no_outside (ap (λ (h : Hardware). h.desc) c.close.ensures.rest) refl (c.close.ensures.happens no_outside)

pub returns-in-Fail-clause-machine : goal.returns-in-Fail-clause-machine
returns-in-Fail-clause-machine g c o is = rw c.in-Fail.is (on_ok c.fail.result (failure_made c.args.self.now c.fail.new.self o c.in-Fail.element (c.fail.ensures.happens o)))

pub returns-in-Fail-clause-note : goal.returns-in-Fail-clause-note
returns-in-Fail-clause-note g c o is = rw c.in-Fail.is (answers c.args.self.now.desc (machine_of c.args.self.now o) (event.Fail c.in-Fail.element) c.args.self.now c.fail.new.self c.fail.result (c.fail.ensures.answer o)).noted

pub returns-in-Fail-clause-unchecked : goal.returns-in-Fail-clause-unchecked
returns-in-Fail-clause-unchecked g c o is = rw c.in-Fail.is (answers c.args.self.now.desc (machine_of c.args.self.now o) (event.Fail c.in-Fail.element) c.args.self.now c.fail.new.self c.fail.result (c.fail.ensures.answer o)).unchecked

pub returns-in-Fail-clause-sent : goal.returns-in-Fail-clause-sent
returns-in-Fail-clause-sent g c = silent_sent _ (failure_tells c.args.self.now.desc (machine_of c.args.self.now no_outside) c.in-Fail.element) c.fail.result _ (answers c.args.self.now.desc (machine_of c.args.self.now no_outside) (event.Fail c.in-Fail.element) c.args.self.now c.fail.new.self c.fail.result (c.fail.ensures.answer no_outside)).noted

pub returns-in-Fail-clause-entries : goal.returns-in-Fail-clause-entries
returns-in-Fail-clause-entries g c = silent_entries _ (failure_tells c.args.self.now.desc (machine_of c.args.self.now no_outside) c.in-Fail.element) c.fail.result _ (answers c.args.self.now.desc (machine_of c.args.self.now no_outside) (event.Fail c.in-Fail.element) c.args.self.now c.fail.new.self c.fail.result (c.fail.ensures.answer no_outside)).noted

pub returns-in-Fail-clause-outside : goal.returns-in-Fail-clause-outside
returns-in-Fail-clause-outside g c o is = rw c.in-Fail.is (on_ok c.fail.result (subst (IsOutside _ _) (sym (failure_outside c.args.self.now.desc c.args.self.now o c.in-Fail.element)) is))

pub returns-in-Fail-clause-stays : goal.returns-in-Fail-clause-stays
returns-in-Fail-clause-stays g c = (answers c.args.self.now.desc (machine_of c.args.self.now no_outside) (event.Fail c.in-Fail.element) c.args.self.now c.fail.new.self c.fail.result (c.fail.ensures.answer no_outside)).stays

pub returns-in-Fail-clause-stopped : goal.returns-in-Fail-clause-stopped
returns-in-Fail-clause-stopped g c o is =
    rw c.in-Fail.is (left_made c.args.self.now c.fail.new.self o c.args.self.now.desc (event.Fail c.in-Fail.element) c.fail.result (answers c.args.self.now.desc (machine_of c.args.self.now o) (event.Fail c.in-Fail.element) c.args.self.now c.fail.new.self c.fail.result (c.fail.ensures.answer o)).left
    (failure_made c.args.self.now c.fail.new.self o c.in-Fail.element (c.fail.ensures.happens o)))

pub returns-in-Fail-clause-err_lines : goal.returns-in-Fail-clause-err_lines
returns-in-Fail-clause-err_lines g c = on_err c.fail.result (accept_same _ (λ l. []) (λ l. refl))

pub returns-in-Fail-clause-err_entries : goal.returns-in-Fail-clause-err_entries
returns-in-Fail-clause-err_entries g c = on_err c.fail.result refl

pub returns-in-Fail-clause-cause : goal.returns-in-Fail-clause-cause
returns-in-Fail-clause-cause g c o is = rw c.in-Fail.is (ends_checked c.args.self.now c.fail.new.self o c.args.self.now.desc (event.Fail c.in-Fail.element) c.fail.result _ _ _ _ (answers c.args.self.now.desc (machine_of c.args.self.now o) (event.Fail c.in-Fail.element) c.args.self.now c.fail.new.self c.fail.result (c.fail.ensures.answer o)).checked)

pub returns-in-Fail-clause-fit : goal.returns-in-Fail-clause-fit
returns-in-Fail-clause-fit g c =
    call_fits c.args.self.now c.fail.new.self (event.Fail c.in-Fail.element) c.requires.hardware.described c.requires.fit tt (rw c.in-Fail.is at c.requires.allowed)
    c.fail.result no_outside c.fail.ensures.desc (answers c.args.self.now.desc (machine_of c.args.self.now no_outside) (event.Fail c.in-Fail.element) c.args.self.now c.fail.new.self c.fail.result (c.fail.ensures.answer no_outside)).unchecked (on_ok c.fail.result (failure_made c.args.self.now c.fail.new.self no_outside c.in-Fail.element (c.fail.ensures.happens no_outside)))

pub returns-in-Repair-clause-machine : goal.returns-in-Repair-clause-machine
returns-in-Repair-clause-machine g c o is = rw c.in-Repair.is (repair_made c.args.self.now c.repair.new.self o c.in-Repair.element (c.repair.ensures.happens o))

pub returns-in-Repair-clause-unchecked : goal.returns-in-Repair-clause-unchecked
returns-in-Repair-clause-unchecked g c o is = rw c.in-Repair.is refl

pub returns-in-Repair-clause-outside : goal.returns-in-Repair-clause-outside
returns-in-Repair-clause-outside g c o is = rw c.in-Repair.is (subst (IsOutside _ _) (sym (repair_outside c.args.self.now.desc c.args.self.now o c.in-Repair.element)) is)

pub returns-in-Repair-clause-fit : goal.returns-in-Repair-clause-fit
returns-in-Repair-clause-fit g c =
    made_fits c.args.self.now c.repair.new.self (event.Repair c.in-Repair.element) c.requires.hardware.described c.requires.fit tt (rw c.in-Repair.is at c.requires.allowed)
    no_outside c.repair.ensures.desc refl (repair_made c.args.self.now c.repair.new.self no_outside c.in-Repair.element (c.repair.ensures.happens no_outside))

pub returns-in-Upset-clause-machine : goal.returns-in-Upset-clause-machine
returns-in-Upset-clause-machine g c o is = rw c.in-Upset.is (c.upset.ensures.happens o)

pub returns-in-Upset-clause-unchecked : goal.returns-in-Upset-clause-unchecked
returns-in-Upset-clause-unchecked g c o is = rw c.in-Upset.is refl

pub returns-in-Upset-clause-fit : goal.returns-in-Upset-clause-fit
returns-in-Upset-clause-fit g c =
    made_fits c.args.self.now c.upset.new.self (event.Upset c.in-Upset.pe c.in-Upset.half c.in-Upset.reg c.in-Upset.mask) c.requires.hardware.described c.requires.fit tt (rw c.in-Upset.is at c.requires.allowed)
    no_outside (ap (λ (h : Hardware). h.desc) c.upset.ensures.rest) refl (c.upset.ensures.happens no_outside)
