use Rattle.std.proofs.Common.{◌≡◌, Some, take, length}
use Rattle.seq_flat.specs.Memory.{bytes_from}
use Rattle.seq_layout.specs.Copies.{copies}
use Rattle.seq_kernel.specs.Views.{read_by, seen}
use Rattle.seq_kernel.proofs.calls.gather.Given as goal

abbrev pub invariant-loop-i : goal.invariant-loop-i
invariant-loop-i l = record {
  gathered : bytes_from (seen l.desc l.r.pid.0 l.r.held (read_by l.desc (copies l.layout l.memories) l.cache)) l.span.address l.i ≡ Some (take l.i l.gathered);
  full : length l.gathered ≡ 64;
}
