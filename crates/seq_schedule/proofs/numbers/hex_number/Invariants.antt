use Rattle.std.proofs.Common.{◌≡◌, ◌<◌, ◌^◌, take}
use Rattle.seq_schedule.specs.Numbers.{hex_number}
use Rattle.seq_schedule.proofs.numbers.hex_number.Given as goal

abbrev pub invariant-loop-byte : goal.invariant-loop-byte
invariant-loop-byte l = (l.number ≡ hex_number (take l.byte-index l.word)) × (l.number < 16 ^ l.byte-index)
