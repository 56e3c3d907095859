use Rattle.std.proofs.Common.{◌*◌, arith}
use Rattle.std.proofs.lemmas.List.FromFn.{map-range_with_len_more}
use Rattle.seq_schedule.specs.Numbers.{hex_byte}
use Rattle.seq_schedule.proofs.numbers.hex_bytes.Goals as goal

pub loop-k-preserved : goal.loop-k-preserved
loop-k-preserved c =
    let more = map-range_with_len_more (λ k. hex_byte c.args.word.now (2 * k)) 0 c.loop-k.k c.loop-k.k (omega arith) in
    let pushed = c.in_ok-push.ensures.ok in
    let made = c.hex_byte.ensures in
    let old = c.loop-k.invariant in
    cc (more, pushed, made, old)
