use Rattle.std.proofs.Common.{◌≡◌, ◌≤◌, None}
use Rattle.seq_layout.specs.Copies.{copies}
use Rattle.seq_ruling.specs.Lowest.{lowest}
use Rattle.seq_recover.proofs.LeftFrom.{test}
use Rattle.seq_recover.proofs.locks.left_from.Given as goal

-- no lock word below the next one is to be cleared
abbrev pub invariant-loop-k : goal.invariant-loop-k
invariant-loop-k l = record {
  above : l.from ≤ l.k;
  none : lowest (test l.desc (copies l.layout l.memories) l.pid.0 l.from) l.k ≡ None;
}
