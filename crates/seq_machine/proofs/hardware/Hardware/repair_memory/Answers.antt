use Rattle.seq_machine.proofs.Failing.{memory_mended}
use Rattle.seq_machine.proofs.hardware.Hardware.repair_memory.Goals as goal

pub returns-clause-happens : goal.returns-clause-happens
returns-clause-happens c o = memory_mended c.args.self.now c.requires.hardware o c.args.me.0 c.repair.new.memories c.requires.allowed.down c.repair.ensures.repaired
