use Rattle.seq_machine.proofs.hardware.Hardware.repair.Goals as goal

pub returns-in-Processor-clause-happens : goal.returns-in-Processor-clause-happens
returns-in-Processor-clause-happens c o = rw c.in-Processor.is (c.repair_processor.ensures.happens o)

pub returns-in-Memory-clause-happens : goal.returns-in-Memory-clause-happens
returns-in-Memory-clause-happens c o = rw c.in-Memory.is (c.repair_memory.ensures.happens o)

pub returns-in-Io-clause-happens : goal.returns-in-Io-clause-happens
returns-in-Io-clause-happens c o = rw c.in-Io.is (c.repair_io.ensures.happens o)
