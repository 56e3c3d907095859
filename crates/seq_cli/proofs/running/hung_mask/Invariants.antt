use Rattle.std.proofs.Common.{◌≡◌, ℕ, ◌+◌, ◌-◌, ◌^◌, ◌<◌, false, get_or}
use Rattle.seq_shelf.specs.Outlets.{marks}
use Rattle.seq_words.specs.Masks.{has_bit}
use Rattle.seq_cli.proofs.running.hung_mask.Given as goal

abbrev pub invariant-loop-above : goal.invariant-loop-above
invariant-loop-above g l = record {
  small : l.mask < 2 ^ l.above;
  bits : (k : ℕ) → k < l.above → has_bit l.mask k ≡ get_or (marks l.lines) (16 - l.above + k) false;
}
