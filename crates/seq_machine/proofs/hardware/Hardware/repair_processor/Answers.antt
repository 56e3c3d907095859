use Rattle.std.proofs.Common.{◌<◌, length, refl, arith}
use Rattle.seq_turns.specs.declared.hand.Hand.TheVariants.{Seek}
use Rattle.seq_machine.proofs.Failing.{now_seeks}
use Rattle.seq_machine.proofs.hardware.Hardware.repair_processor.Goals as goal

pub returns-clause-happens : goal.returns-clause-happens
returns-clause-happens c o =
    let h = c.args.self.now in
    let z = c.at_mut.result.now in
    let few : c.args.pe.0 < length h.processors = omega (arith, c.requires.hardware.processors, c.requires.allowed.0) in
    now_seeks h o c.args.pe.0 few z c.at_mut.ensures.value h.desc (record { hand = Seek; cache = z.cache }) c.requires.allowed.1 refl refl
