use Rattle.std.proofs.Common.{◌≡◌, ◌≤◌, ◌^◌, take}
use Rattle.seq_source.specs.Numbers.{kept}
use Rattle.seq_source.proofs.Kept.{hex_number}
use Rattle.seq_source.proofs.numbers.hex_number.Given as goal

abbrev pub invariant-loop-byte : goal.invariant-loop-byte
invariant-loop-byte l = (l.number ≡ kept (hex_number (take l.byte-index l.digits))) × (l.number ≤ 2 ^ 40)
