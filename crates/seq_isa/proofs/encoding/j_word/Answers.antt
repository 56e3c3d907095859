use Rattle.std.proofs.Common.{rules, arith}
use Rattle.std.proofs.lemmas.Grind.{common_steps}
use Rattle.seq_isa.proofs.Immediates.{jump_bits_of}
use Rattle.seq_isa.proofs.encoding.j_word.Goals as goal

pub returns-then-rd-lt32-clause-some : goal.returns-then-rd-lt32-clause-some
returns-then-rd-lt32-clause-some c =
    let h = c.in_ok-bits.ensures.some in
    let n = c.in_ok-bits.bits in
    let w = c.joined.result in
    let same = jump_bits_of w n h.0 h.1 (grind (arith, common_steps)) (grind (arith, common_steps)) (grind (arith, common_steps)) (grind (arith, common_steps)) in
    record { opcode_is = search rules; rd_is = search rules; offset_is = rw same (search rules) }
