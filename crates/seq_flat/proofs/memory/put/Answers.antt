use Rattle.std.proofs.Common.{◌<◌, arith, refl}
use Rattle.std.proofs.lemmas.Grind.{common_steps}
use Rattle.seq_rv32.specs.ByteMemory.{bytes_stored}
use Rattle.seq_rv32.proofs.Numbers.{bytes_stored_length, bytes_stored_next, le_byte}
use Rattle.seq_flat.proofs.memory.put.Goals as goal

pub set-requires : goal.set-requires
set-requires c =
    let same = bytes_stored_length c.args.bytes.now c.args.at c.loop-i.i c.args.value in
    grind (arith, common_steps)

pub loop-i-init : goal.loop-i-init
unfolding bytes_stored
loop-i-init c = refl

pub loop-i-preserved : goal.loop-i-preserved
loop-i-preserved c =
    let few : c.loop-i.i < 4 = grind (arith, c.requires.width) in
    let next = bytes_stored_next c.args.bytes.now c.args.at c.loop-i.i c.args.value _ (rw c.to_le_bytes-low.ensures (le_byte c.args.value c.loop-i.i few)) in
    rw (c.set.ensures, c.loop-i.invariant) next
