use Rattle.std.proofs.Common.{◌≡◌, length, replicate, take}
use Rattle.seq_memory.proofs.element.fill.Given as goal

abbrev pub invariant-loop-at : goal.invariant-loop-at
invariant-loop-at g l = record {
  keeps_length : length l.items ≡ length l.initial.items;
  filled : take l.at l.items ≡ replicate l.at l.item;
}
