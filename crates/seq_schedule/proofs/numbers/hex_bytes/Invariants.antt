use Rattle.std.proofs.Common.{◌≡◌, ◌*◌, map}
use Rattle.std.specs.List.{range_with_len}
use Rattle.seq_schedule.specs.Numbers.{hex_byte}
use Rattle.seq_schedule.proofs.numbers.hex_bytes.Given as goal

abbrev pub invariant-loop-k : goal.invariant-loop-k
invariant-loop-k l = l.bytes ≡ map (λ k. hex_byte l.word (2 * k)) (range_with_len 0 l.k)
