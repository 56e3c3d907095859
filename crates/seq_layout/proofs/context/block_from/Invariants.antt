-- the bytes that stand already
use Rattle.std.proofs.Common.{◌≡◌, ℕ, ◌+◌, ◌*◌, ◌/◌, ◌%◌, ◌<◌, length, get_or}
use Rattle.seq_layout.specs.Contexts.{byte_of}
use Rattle.seq_layout.proofs.context.block_from.Given as goal

abbrev pub invariant-loop-i : goal.invariant-loop-i
invariant-loop-i l = record {
  full : length l.block.bytes ≡ 32;
  bytes : (k : ℕ) → k < 4 * l.i → get_or l.block.bytes k 0 ≡ byte_of (get_or l.numbers (l.from + k / 4) 0) (k % 4);
}
