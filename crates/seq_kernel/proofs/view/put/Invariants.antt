use Rattle.std.proofs.Common.{◌≡◌, length}
use Rattle.seq_rv32.specs.ByteMemory.{bytes_stored}
use Rattle.seq_kernel.proofs.view.put.Given as goal

abbrev pub invariant-loop-i : goal.invariant-loop-i
invariant-loop-i l = record { stored : l.bytes ≡ bytes_stored l.initial.bytes l.at l.i l.value; full : length l.initial.bytes ≡ 32 }
