use Rattle.std.proofs.Common.{ℕ, suc, ◌<◌, List, length, get_or, set, ap, sym, ◌∙◌, subst, add-one}
use Rattle.seq_io.specs.declared.element.PortState.{PortState}
use Rattle.seq_machine.specs.Plain.{machine_of, empty_port}
use Rattle.seq_machine.proofs.Lists.{set_by}
use Rattle.seq_machine.proofs.hardware.Hardware.input.Goals as goal

pub returns-clause-happens : goal.returns-clause-happens
returns-clause-happens c = λ o.
    let h = c.args.self.now in
    let inside : c.args.line.0 < length h.ports = subst (λ n. c.args.line.0 < n) (sym c.requires.hardware.ports) c.requires.allowed.line in
    let found = c.at_mut-port.result.now in
    let port : ℕ → List ℕ → PortState = λ arrived store. record found { arrived = arrived; store = store } in
    let ports : PortState → ℕ → PortState = λ x j. get_or (set h.ports c.args.line.0 x) j (empty_port h.desc) in
    ap (λ (f : ℕ → PortState). record (machine_of h o) { port = f })
    (ap (λ (n : ℕ). ports (port n c.set.new.self)) (add-one found.arrived)
    ∙ ap (λ (store : List ℕ). ports (port (suc found.arrived) store)) c.set.ensures
    ∙ set_by (λ (x : PortState). record x { arrived = suc x.arrived; store = set x.store x.arrived c.args.byte }) h.ports c.args.line.0 found (empty_port h.desc) inside c.at_mut-port.ensures.value)
