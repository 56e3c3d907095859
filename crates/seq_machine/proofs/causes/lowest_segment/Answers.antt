use Rattle.std.proofs.Common.{◌≡◌, true, sym, ◌∙◌, arith}
use Rattle.seq_words.specs.Masks.{has_bit}
use Rattle.seq_ruling.proofs.Lowest.{lowest_found}
use Rattle.seq_machine.proofs.causes.lowest_segment.Goals as goal

pub returns-then-has_bit : goal.returns-then-has_bit
returns-then-has_bit c =
    let here : has_bit c.args.mask c.loop-segment.segment ≡ true = sym c.has_bit.ensures ∙ c.if-has_bit.true in
    sym (lowest_found (has_bit c.args.mask) c.loop-segment.segment 16 c.loop-segment.invariant here (omega arith))
