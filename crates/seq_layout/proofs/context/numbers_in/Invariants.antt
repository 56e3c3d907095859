-- the numbers that are read already, and what they say of the blocks
use Rattle.std.proofs.Common.{◌≡◌, ℕ, ◌+◌, ◌*◌, ◌/◌, ◌%◌, ◌<◌, length, get_or}
use Rattle.seq_words.specs.Blocks.{zero_block}
use Rattle.seq_layout.specs.Contexts.{byte_of, number_at}
use Rattle.seq_layout.proofs.context.numbers_in.Given as goal

abbrev pub invariant-loop-i : goal.invariant-loop-i
invariant-loop-i l = record {
  all : length l.number-items ≡ 64;
  number : (i : ℕ) → i < l.i → get_or l.number-items i 0 ≡ number_at l.b i;
  full : (i : ℕ) → i < l.i → length (get_or l.b (i / 8) zero_block).bytes ≡ 32;
  bytes : (i j : ℕ) → i < l.i → j < 4 → get_or (get_or l.b (i / 8) zero_block).bytes (4 * (i % 8) + j) 0 ≡ byte_of (get_or l.number-items i 0) j;
}
