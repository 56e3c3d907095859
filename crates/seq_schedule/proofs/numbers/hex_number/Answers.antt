use Rattle.std.proofs.Common.{refl, ◌∙◌, arith}
use Rattle.seq_schedule.proofs.Hex.{steps, number-nil}
use Rattle.seq_schedule.proofs.numbers.hex_number.Goals as goal

pub loop-byte-init : goal.loop-byte-init
loop-byte-init c = (number-nil, omega arith)

pub overflow_mul-number : goal.overflow_mul-number
overflow_mul-number c =
    let s = steps c.args.word.now c.loop-byte.number c.loop-byte.byte-index _ c.requires.digits c.requires.few (omega arith) c.loop-byte.invariant.0 c.loop-byte.invariant.1 refl in
    omega (arith, s.fits)

pub overflow_add-number : goal.overflow_add-number
overflow_add-number c =
    let s = steps c.args.word.now c.loop-byte.number c.loop-byte.byte-index c.from.result c.requires.digits c.requires.few (omega arith) c.loop-byte.invariant.0 c.loop-byte.invariant.1 (c.from.ensures ∙ c.hex_value.ensures.value) in
    omega (arith, s.fits)

pub loop-byte-preserved : goal.loop-byte-preserved
loop-byte-preserved c =
    let s = steps c.args.word.now c.loop-byte.number c.loop-byte.byte-index c.from.result c.requires.digits c.requires.few (omega arith) c.loop-byte.invariant.0 c.loop-byte.invariant.1 (c.from.ensures ∙ c.hex_value.ensures.value) in
    (s.next, s.small)
