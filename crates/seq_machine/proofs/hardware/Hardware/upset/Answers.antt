use Rattle.std.proofs.Common.{◌<◌, length, refl, sym, subst}
use Rattle.seq_machine.proofs.Striking.{may_be_struck, now_struck}
use Rattle.seq_machine.proofs.hardware.Hardware.upset.Goals as goal

pub strike-requires-clause-other : goal.strike-requires-clause-other
strike-requires-clause-other c = may_be_struck c.args.self.now c.args.pe.0 c.at_mut-processor.result.now c.at_mut-processor.ensures.value c.args.half c.requires.allowed.other

pub returns-clause-happens : goal.returns-clause-happens
returns-clause-happens c o =
    let h = c.args.self.now in
    let few : c.args.pe.0 < length h.processors = subst (λ n. c.args.pe.0 < n) (sym c.requires.hardware.processors) c.requires.allowed.processor in
    now_struck h c.args.pe.0 c.at_mut-processor.result.now c.at_mut-processor.ensures.value o h.desc c.args.half c.args.reg c.args.mask
    (record c.at_mut-processor.result.now { hand = c.strike.new.hand }) few c.strike.ensures refl
