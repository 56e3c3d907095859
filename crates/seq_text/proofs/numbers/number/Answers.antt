use Rattle.std.proofs.Common.{sym}
use Rattle.seq_text.proofs.Digits.{number-none, number-long, number-short}
use Rattle.seq_text.proofs.numbers.number.Goals as goal

pub returns-then-not-is_number-clause-value : goal.returns-then-not-is_number-clause-value
returns-then-not-is_number-clause-value c = number-none c.args.word.now (sym c.if-not-is_number.ensures)

pub returns-then-word-gt-DIGITS-clause-value : goal.returns-then-word-gt-DIGITS-clause-value
returns-then-word-gt-DIGITS-clause-value c = number-long c.args.word.now (sym c.if-not-is_number.ensures) c.if-word-gt-DIGITS.true

pub returns-else-word-gt-DIGITS-clause-value : goal.returns-else-word-gt-DIGITS-clause-value
returns-else-word-gt-DIGITS-clause-value c = number-short c.args.word.now _ _ (sym c.if-not-is_number.ensures) c.value.ensures.value c.min.ensures
