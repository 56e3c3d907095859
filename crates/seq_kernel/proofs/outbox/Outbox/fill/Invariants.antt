use Rattle.seq_layout.specs.Copies.{copies}
use Rattle.seq_kernel.proofs.OutboxFills.{IsFilling}
use Rattle.seq_kernel.proofs.outbox.Outbox.fill.Given as goal

abbrev pub invariant-loop-i : goal.invariant-loop-i
invariant-loop-i l = IsFilling l.layout (copies l.layout l.memories) l.initial.cache l.cache l.self.owner.0 l.self.index l.self.from l.bytes l.i-end l.i
