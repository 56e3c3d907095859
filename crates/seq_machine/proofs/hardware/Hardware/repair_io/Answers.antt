use Rattle.std.proofs.Common.{◌<◌, length, sym, subst}
use Rattle.seq_machine.proofs.Striking.{now_up}
use Rattle.seq_machine.proofs.hardware.Hardware.repair_io.Goals as goal

pub returns-clause-happens : goal.returns-clause-happens
returns-clause-happens c o =
    let h = c.args.self.now in
    let few : c.args.io.0 < length h.ios = subst (λ n. c.args.io.0 < n) (sym c.requires.hardware.ios) c.requires.element in
    now_up h o h.desc c.args.io.0 c.at_mut-element.result.now few c.at_mut-element.ensures.value
