use Rattle.std.proofs.Common.{◌≡◌}
use Rattle.seq_rv32.specs.ByteMemory.{bytes_stored}
use Rattle.seq_flat.proofs.memory.put.Given as goal

abbrev pub invariant-loop-i : goal.invariant-loop-i
invariant-loop-i l = l.bytes ≡ bytes_stored l.initial.bytes l.at l.i l.value
