use Rattle.std.proofs.Common.{arith}
use Rattle.seq_kernel.proofs.OutboxFills.{filled_is}
use Rattle.seq_kernel.proofs.outbox.Outbox.filled.Goals as goal

pub returns : goal.returns
returns c = filled_is _ _ _ _ (record { bytes = c.loop-j.filled }) c.loop-j.invariant.full (λ j below. c.loop-j.invariant.done j (omega arith))
