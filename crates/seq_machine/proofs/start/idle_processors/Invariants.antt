-- the processors that stand already
use Rattle.std.proofs.Common.{◌≡◌, replicate}
use Rattle.seq_machine.specs.Plain.{idle_processor}
use Rattle.seq_machine.proofs.start.idle_processors.Given as goal

abbrev pub invariant-loop-number : goal.invariant-loop-number
invariant-loop-number l = l.processors ≡ replicate l.number (idle_processor l.desc)
