use Rattle.std.proofs.Common.{ap, arith}
use Rattle.std.specs.Str.Parse.{digits_value}
use Rattle.std.proofs.lemmas.List.{take_all}
use Rattle.seq_text.proofs.Digits.{IsNumber-from, steps, value-small}
use Rattle.seq_text.proofs.numbers.value.Goals as goal

pub overflow_mul-value : goal.overflow_mul-value
overflow_mul-value c =
    let s = steps c.args.word.now c.loop-byte.value c.loop-byte.byte-index c.requires.digits c.requires.few (omega arith) c.loop-byte.invariant.0 c.loop-byte.invariant.1 in
    omega (arith, s.fits)

pub overflow_add-value : goal.overflow_add-value
overflow_add-value c =
    let s = steps c.args.word.now c.loop-byte.value c.loop-byte.byte-index c.requires.digits c.requires.few (omega arith) c.loop-byte.invariant.0 c.loop-byte.invariant.1 in
    omega (arith, s.fits)

pub loop-byte-preserved : goal.loop-byte-preserved
loop-byte-preserved c =
    let s = steps c.args.word.now c.loop-byte.value c.loop-byte.byte-index c.requires.digits c.requires.few (omega arith) c.loop-byte.invariant.0 c.loop-byte.invariant.1 in
    (omega (arith, s.next, c.from.ensures), omega (arith, s.small, c.from.ensures))

pub returns-clause-small : goal.returns-clause-small
returns-clause-small c =
    let small = value-small c.args.word.now (IsNumber-from c.args.word.now c.requires.digits).digits (omega arith) in
    omega (arith, small, c.loop-byte.invariant.0, ap (digits_value 10) (take_all c.loop-byte.byte-index c.args.word.now (omega arith)))
