use Rattle.std.proofs.Common.{◌≡◌, ◌+◌, ◌-◌, ◌≤◌, length}
use Rattle.seq_layout.specs.Copies.{Matches}
use Rattle.seq_flush.proofs.tests.second.Given as goal

-- the flush is the same, but for its cursor
abbrev pub invariant-loop-again : goal.invariant-loop-again
invariant-loop-again l = record {
  matches : Matches l.layout l.memories;
  pid : l.flush.pid ≡ l.fn.flush.pid;
  holder : l.flush.holder ≡ l.fn.flush.holder;
  context : l.flush.context ≡ l.fn.flush.context;
  within : l.flush.cursor ≤ length l.cache.changes + 8;
}

abbrev pub decreases-loop-again : goal.decreases-loop-again
decreases-loop-again l = length l.cache.changes + 8 - l.flush.cursor
