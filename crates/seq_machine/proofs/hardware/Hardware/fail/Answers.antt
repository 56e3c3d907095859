use Rattle.std.proofs.Common.{ap, Ok}
use Rattle.seq_machine.proofs.hardware.Hardware.fail.Goals as goal

pub returns-in-Processor-clause-happens : goal.returns-in-Processor-clause-happens
returns-in-Processor-clause-happens c o = rw c.in-Processor.is (c.fail_processor.ensures.happens o)

pub returns-in-Processor-clause-answer : goal.returns-in-Processor-clause-answer
returns-in-Processor-clause-answer c o = rw c.in-Processor.is (c.fail_processor.ensures.answer o)

pub returns-in-Memory-clause-happens : goal.returns-in-Memory-clause-happens
returns-in-Memory-clause-happens c o = rw c.in-Memory.is (c.fail_memory.ensures.happens o)

pub returns-in-Memory-clause-answer : goal.returns-in-Memory-clause-answer
returns-in-Memory-clause-answer c o = rw c.in-Memory.is (c.fail_memory.ensures.answer o)

pub returns-in-Io-clause-happens : goal.returns-in-Io-clause-happens
returns-in-Io-clause-happens c o = rw c.in-Io.is (c.fail_io.ensures.happens o)

pub returns-in-Io-clause-answer : goal.returns-in-Io-clause-answer
returns-in-Io-clause-answer c o = rw c.in-Io.is (ap Ok (c.fail_io.ensures.note o))
