use Rattle.std.proofs.Common.{sym, ◌∙◌}
use Rattle.seq_source.proofs.Kept.{hexadecimal_some}
use Rattle.seq_source.proofs.numbers.hexadecimal.Goals as goal

pub returns-then-is_hexadecimal-clause-value : goal.returns-then-is_hexadecimal-clause-value
returns-then-is_hexadecimal-clause-value c = hexadecimal_some c.args.digits.now c.hex_number.result (sym c.is_hexadecimal.ensures ∙ c.if-is_hexadecimal.true) c.hex_number.ensures.value
