use Rattle.std.proofs.Common.{◌≡◌, ◌+◌, ◌<◌, ◌≤◌, length, arith, refl}
use Rattle.seq_rv32.specs.ByteMemory.{bytes_stored}
use Rattle.seq_rv32.proofs.Numbers.{bytes_stored_next, le_byte}
use Rattle.seq_kernel.proofs.ViewBytes.{stored_index}
use Rattle.seq_kernel.proofs.view.put.Goals as goal

pub loop-i-init : goal.loop-i-init
unfolding bytes_stored
loop-i-init c = record { stored = refl; full = omega arith }

pub loop-i-preserved : goal.loop-i-preserved
loop-i-preserved c =
    let few : c.loop-i.i < 4 = grind (arith, c.requires.width) in
    let next = bytes_stored_next c.args.bytes.now c.args.at c.loop-i.i c.args.value _ (rw c.to_le_bytes-low.ensures (le_byte c.args.value c.loop-i.i few)) in
    record { stored = rw (c.loop-i.invariant.stored) next; full = c.loop-i.invariant.full }

pub returns-clause-each : goal.returns-clause-each
returns-clause-each c =
    let last : c.loop-i.i ≡ c.args.width = omega arith in
    let inside : c.args.at + c.args.width ≤ length c.args.bytes.now = omega arith in
    λ k. rw (c.loop-i.invariant.stored, last) (stored_index c.args.bytes.now c.args.at c.args.width c.args.value k inside)
