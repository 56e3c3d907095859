-- the fields are the numbers
use Rattle.std.proofs.Common.{◌≡◌, get_or, refl, rules}
use Rattle.seq_layout.proofs.ContextNumbers.{numbers_back}
use Rattle.seq_layout.proofs.context.context_of.Goals as goal

pub returns-then-is_context-clause-numbers : goal.returns-then-is_context-clause-numbers
returns-then-is_context-clause-numbers c =
    let numbers = c.args.numbers.now in
    let unused = c.if-not-unused_are_zero.ensures.0 refl in
    let end : c.in_ok-ok.field-0 ≡ get_or numbers 33 0 = search rules in
    let held : c.in_ok-ok-2.field-0 ≡ get_or numbers 36 0 = search rules in
    numbers_back numbers _ c.told-numbers unused.0 unused.1 c.copy_from_slice.ensures.after refl end refl refl held c.from_halves.ensures.low c.from_halves.ensures.high refl refl
