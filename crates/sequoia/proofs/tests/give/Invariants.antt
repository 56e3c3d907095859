use Rattle.std.proofs.Common.{◌≡◌, length}
use Rattle.seq_shelf.specs.Outlets.{views, marks}
use Rattle.seq_shelf.specs.Rows.{AreFresh}
use Rattle.sequoia.proofs.tests.give.OwnLists.{own-1}
use Rattle.sequoia.proofs.tests.give.Given as goal

abbrev pub invariant-loop-n : goal.invariant-loop-n
invariant-loop-n g l = record {
  number : length l.lines.items ≡ l.n;
  fresh : AreFresh (views (λ z. (own-1.entry z.0).1.line z.1) l.lines.items) (marks l.lines.items);
}
