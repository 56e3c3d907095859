use Rattle.std.proofs.Common.{◌<◌, List, length, ap, sym, ◌∙◌, subst}
use Rattle.seq_io.specs.declared.element.IoElement.{IoElement}
use Rattle.seq_machine.specs.Plain.{machine_of}
use Rattle.seq_machine.proofs.Striking.{now_down}
use Rattle.seq_machine.proofs.hardware.Hardware.fail_io.Goals as goal

pub returns-clause-happens : goal.returns-clause-happens
returns-clause-happens c o =
    let h = c.args.self.now in
    let few : c.args.io.0 < length h.ios = subst (λ n. c.args.io.0 < n) (sym c.requires.hardware.ios) c.requires.element in
    ap (λ (xs : List IoElement). machine_of (record h { ios = xs }) o) c.set.ensures ∙ now_down h o h.desc c.args.io.0 few
