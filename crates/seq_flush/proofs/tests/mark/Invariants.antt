use Rattle.std.proofs.Common.{◌≡◌, ◌-◌}
use Rattle.seq_layout.specs.Copies.{Matches}
use Rattle.seq_flush.proofs.tests.mark.Given as goal

-- the flush is the same, but for its cursor
abbrev pub invariant-loop-again : goal.invariant-loop-again
invariant-loop-again l = record {
  matches : Matches l.layout l.memories;
  pid : l.flush.pid ≡ l.fn.flush.pid;
  holder : l.flush.holder ≡ l.fn.flush.holder;
  context : l.flush.context ≡ l.fn.flush.context;
}

abbrev pub decreases-loop-again : goal.decreases-loop-again
decreases-loop-again l = 1 - l.flush.cursor
