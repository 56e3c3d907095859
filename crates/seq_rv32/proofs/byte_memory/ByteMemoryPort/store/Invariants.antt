use Rattle.std.proofs.Common.{◌≡◌}
use Rattle.seq_rv32.specs.ByteMemory.{bytes_stored}
use Rattle.seq_rv32.proofs.byte_memory.ByteMemoryPort.store.Given as goal

abbrev pub invariant-loop-i : goal.invariant-loop-i
invariant-loop-i l = l.self.bytes ≡ bytes_stored l.initial.self.bytes l.at l.i l.value
