use Rattle.std.proofs.Common.{◌∙◌, arith}
use Rattle.seq_source.proofs.Kept.{kept-nil, kept_more, kept_all}
use Rattle.seq_source.proofs.numbers.hex_number.Goals as goal

pub loop-byte-init : goal.loop-byte-init
loop-byte-init c = (kept-nil, omega arith)

pub loop-byte-preserved : goal.loop-byte-preserved
loop-byte-preserved c =
    (c.min-number.ensures ∙ kept_more c.args.digits.now c.loop-byte.byte-index c.loop-byte.number c.from.result (omega arith) c.loop-byte.invariant.0 (c.from.ensures ∙ c.hex_value.ensures.value), omega (arith, c.min-number.ensures))

pub returns-clause-value : goal.returns-clause-value
returns-clause-value c = λ all. kept_all c.args.digits.now c.loop-byte.byte-index c.loop-byte.number (omega (arith, c.loop-byte-test.false)) c.loop-byte.invariant.0 all
