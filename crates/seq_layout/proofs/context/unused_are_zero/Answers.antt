-- the test of a part, as one of the whole
use Rattle.seq_layout.proofs.ContextNumbers.{zero_from, zero_in}
use Rattle.seq_layout.proofs.context.unused_are_zero.Goals as goal

pub returns-then-numbers-eq0 : goal.returns-then-numbers-eq0
returns-then-numbers-eq0 c =
    let numbers = c.args.numbers.now in (
      (λ yes. (c.if-numbers-eq0.true, zero_from numbers c.told-numbers (c.are_zero.ensures.0 yes))),
      (λ zeros. c.are_zero.ensures.1 (zero_in numbers c.told-numbers zeros.1)),
    )
