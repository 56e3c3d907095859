use Rattle.std.proofs.Common.{sym, ◌∙◌}
use Rattle.seq_turns.specs.Processors.{someone_amid}
use Rattle.seq_machine.specs.Plain.{machine_of}
use Rattle.seq_machine.proofs.Returning.{held_same, held_note, copied_same, copied_note}
use Rattle.seq_machine.proofs.hardware.Hardware.copy_or_hold.Goals as goal

pub returns-then-is_busy-clause-machine : goal.returns-then-is_busy-clause-machine
returns-then-is_busy-clause-machine c o p =
    let h = c.args.self.now in
    let m = machine_of h o in
    sym (held_same h.desc m p c.args.me.0 (someone_amid h.desc m) (sym (c.is_busy.ensures o) ∙ c.if-is_busy.true))

pub returns-then-is_busy-clause-note : goal.returns-then-is_busy-clause-note
returns-then-is_busy-clause-note c o p =
    let h = c.args.self.now in
    let m = machine_of h o in
    sym (held_note h.desc m p c.args.me.0 (someone_amid h.desc m) (sym (c.is_busy.ensures o) ∙ c.if-is_busy.true))

pub returns-clause-machine : goal.returns-clause-machine
returns-clause-machine c o p =
    let h = c.args.self.now in
    let m = machine_of h o in
    c.copy_unit.ensures.row h.desc c.requires.hardware.layout m ∙ sym (copied_same h.desc m p c.args.me.0 (someone_amid h.desc m) (sym (c.is_busy.ensures o) ∙ c.if-is_busy.false))

pub returns-clause-note : goal.returns-clause-note
returns-clause-note c o p =
    let h = c.args.self.now in
    let m = machine_of h o in
    sym (copied_note h.desc m p c.args.me.0 (someone_amid h.desc m) (sym (c.is_busy.ensures o) ∙ c.if-is_busy.false))
