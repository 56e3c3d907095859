-- No segment below the next one is in the mask.
use Rattle.std.proofs.Common.{◌≡◌, None}
use Rattle.seq_words.specs.Masks.{has_bit}
use Rattle.seq_ruling.specs.Lowest.{lowest}
use Rattle.seq_machine.proofs.causes.lowest_segment.Given as goal

abbrev pub invariant-loop-segment : goal.invariant-loop-segment
invariant-loop-segment l = lowest (has_bit l.mask) l.segment ≡ None
