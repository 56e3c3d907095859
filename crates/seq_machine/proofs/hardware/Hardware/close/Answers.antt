use Rattle.std.proofs.Common.{ℕ, ◌<◌, true, length, ap, sym, subst}
use Rattle.seq_io.specs.declared.element.PortState.{PortState}
use Rattle.seq_machine.specs.Plain.{machine_of, empty_port}
use Rattle.seq_machine.proofs.Lists.{set_by}
use Rattle.seq_machine.proofs.hardware.Hardware.close.Goals as goal

pub returns-clause-happens : goal.returns-clause-happens
returns-clause-happens c = λ o.
    let h = c.args.self.now in
    let inside : c.args.line.0 < length h.ports = subst (λ n. c.args.line.0 < n) (sym c.requires.hardware.ports) c.requires.allowed.line in
    ap (λ (f : ℕ → PortState). record (machine_of h o) { port = f })
    (set_by (λ (x : PortState). record x { closed = true }) h.ports c.args.line.0 c.at_mut-port.result.now (empty_port h.desc) inside c.at_mut-port.ensures.value)
