use Rattle.std.proofs.Common.{◌≡◌, Some, take, length}
use Rattle.seq_flat.specs.Memory.{seen, bytes_from}
use Rattle.seq_flat.proofs.memory.gather.Given as goal

abbrev pub invariant-loop-i : goal.invariant-loop-i
invariant-loop-i l = record {
  gathered : bytes_from (seen l.bytes l.segments l.pid.0) l.address l.i ≡ Some (take l.i l.gathered);
  full : length l.gathered ≡ 64;
}
