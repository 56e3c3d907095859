use Rattle.std.proofs.Common.{◌≡◌, ◌<◌, ◌≤◌, length, get_or, ap, sym, ◌∙◌, subst}
use Rattle.std.proofs.lemmas.List.{get_or_default}
use Rattle.seq_turns.specs.Served.{noted}
use Rattle.std.proofs.lemmas.Option.{get_or_from_slice_get}
use Rattle.seq_layout.specs.Shapes.{Shape, shape_of}
use Rattle.seq_io.specs.Bounds.{IsWired, IsPort}
use Rattle.seq_io.specs.Lines.{no_port}
use Rattle.seq_io.specs.declared.element.PortState.{PortState}
use Rattle.seq_io.proofs.Wired.{wired}
use Rattle.seq_machine.specs.Plain.{fresh_element, empty_port}
use Rattle.seq_machine.proofs.Serves.{lines_of, mapped_many, mapped_alike, accept_none, cause_of, note_is, sends, accepts, outside_new, machine_is, nothing_changed}
use Rattle.seq_machine.proofs.hardware.Hardware.io_turn.Goals as goal

pub turn-requires-clause-wired : goal.turn-requires-clause-wired
turn-requires-clause-wired g c = subst IsWired (sym c.requires.hardware.layout) (wired c.args.self.now.desc c.requires.hardware.described)

pub turn-requires-clause-ports : goal.turn-requires-clause-ports
turn-requires-clause-ports g c =
    let h = c.args.self.now in
    let count : length h.layout.owners ≡ length h.ports = lines_of h.desc h.layout c.requires.hardware.layout ∙ sym c.requires.hardware.ports in
    record {
      number = sym count;
      each = λ l lt.
          let there : l < length h.ports = subst (λ n. l < n) count lt in
          let port = c.requires.serves.ports l (subst (λ n. l < n) c.requires.hardware.ports there) in
          subst (λ (s : Shape). IsPort s l (get_or h.ports l no_port)) (sym c.requires.hardware.layout) (subst (λ (p : PortState). IsPort (shape_of h.desc) l p) (get_or_default h.ports l (empty_port h.desc) no_port there) port);
    }

pub turn-requires-clause-lines : goal.turn-requires-clause-lines
turn-requires-clause-lines g c = subst (λ n. n ≤ length c.args.lines.now.items) (sym (lines_of c.args.self.now.desc c.args.self.now.layout c.requires.hardware.layout)) c.requires.lines

pub returns-in-Ok-clause-machine : goal.returns-in-Ok-clause-machine
returns-in-Ok-clause-machine g c = λ o is.
    let e = c.in-Ok.ensures in
    machine_is c.args.self.now c.requires.hardware c.args.io.0 c.requires.element c.at_mut-element.result.now c.at_mut-element.ensures.value _ _ (mapped_many _ _ _ c.requires.lines) (mapped_alike _ _ _) o is c.requires.serves.cursor
    c.turn.new.memories c.turn.new.io c.turn.new.ports e.copies e.ports e.element

pub returns-in-Ok-clause-note : goal.returns-in-Ok-clause-note
returns-in-Ok-clause-note g c = λ o is.
    c.noted.ensures ∙ ap noted c.in-Ok.ensures.note
    ∙ note_is c.args.self.now c.requires.hardware c.args.io.0 c.requires.element c.at_mut-element.result.now c.at_mut-element.ensures.value _ _ (mapped_many _ _ _ c.requires.lines) (mapped_alike _ _ _) o is c.requires.serves.cursor

pub returns-in-Ok-clause-sent : goal.returns-in-Ok-clause-sent
returns-in-Ok-clause-sent g c = λ o is.
    accepts c.args.self.now c.requires.hardware c.args.io.0 c.requires.element c.at_mut-element.result.now c.at_mut-element.ensures.value _ _ (mapped_many _ _ _ c.requires.lines) (mapped_alike _ _ _) o is c.requires.serves.cursor
    _ c.in-Ok.ensures.bytes

pub returns-in-Ok-clause-outside : goal.returns-in-Ok-clause-outside
returns-in-Ok-clause-outside g c = λ o is.
    outside_new c.args.self.now c.requires.hardware c.args.io.0 c.requires.element c.at_mut-element.result.now c.at_mut-element.ensures.value _ _ (mapped_many _ _ _ c.requires.lines) (mapped_alike _ _ _) o is c.requires.serves.cursor
    _ _ c.in-Ok.ensures.hung c.in-Ok.ensures.bytes

pub returns-in-Err-clause-sending : goal.returns-in-Err-clause-sending
returns-in-Err-clause-sending g c = λ o is.
    sends c.args.self.now c.requires.hardware c.args.io.0 c.requires.element c.at_mut-element.result.now c.at_mut-element.ensures.value _ _ (mapped_many _ _ _ c.requires.lines) (mapped_alike _ _ _) o is c.requires.serves.cursor
    c.in-Err.ensures.sending

pub returns-in-Err-clause-cause : goal.returns-in-Err-clause-cause
returns-in-Err-clause-cause g c =
    let e = c.in-Err.ensures in
    let at = get_or_from_slice_get c.args.self.now.ios c.args.io.0 c.at_mut-element.result.now fresh_element c.at_mut-element.ensures.value in
    rw (c.stopped_at.ensures, at) (cause_of c.at_mut-element.result.now.cursor _ _ c.in-Err.line c.in-Err.error e.err_line e.fault e.memory)

pub returns-in-Err-clause-err : goal.returns-in-Err-clause-err
returns-in-Err-clause-err g c =
    let e = c.in-Err.ensures in
    nothing_changed c.args.self.now c.args.io.0 c.at_mut-element.result.now c.turn.new.io c.turn.new.memories c.turn.new.ports c.at_mut-element.ensures.value e.err_element e.err_memories e.err_ports

pub returns-in-Err-clause-err_lines : goal.returns-in-Err-clause-err_lines
returns-in-Err-clause-err_lines g c = accept_none _ _ c.at_mut-element.result.now.cursor c.in-Err.ensures.err_bytes
