use Rattle.std.proofs.Common.{◌≡◌, ℕ, ◌+◌, ◌<◌, length, get_or}
use Rattle.seq_layout.proofs.layout.units_of.Given as goal

abbrev pub invariant-loop-blocks : goal.invariant-loop-blocks
invariant-loop-blocks l = record {
  extents : length l.units ≡ length l.yielded;
  unit : (e : ℕ) → e < length l.yielded → get_or l.units e 0 ≡ get_or l.fn.blocks e 0 + get_or l.fn.words e 0;
}
