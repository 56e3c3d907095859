use Rattle.std.proofs.Common.{◌≡◌, ℕ, ◌<◌, ◌≤◌, get_or, length}
use Rattle.seq_kernel.specs.Outboxes.{filled_byte}
use Rattle.seq_kernel.proofs.outbox.Outbox.filled.Given as goal

abbrev pub invariant-loop-j : goal.invariant-loop-j
invariant-loop-j l = record {
  full : length l.filled ≡ 32;
  done : (m : ℕ) → m < l.j → get_or l.filled m 0 ≡ filled_byte l.self.from l.bytes l.k l.block m;
  rest : (m : ℕ) → l.j ≤ m → get_or l.filled m 0 ≡ get_or l.block.bytes m 0;
}
