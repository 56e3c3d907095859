use Rattle.std.proofs.Common.{◌≡◌, ◌≤◌, ◌*◌, ◌^◌, take}
use Rattle.std.specs.List.{sum_by}
use Rattle.seq_report.proofs.reports.steps.Given as goal

abbrev pub invariant-loop-entry : goal.invariant-loop-entry
invariant-loop-entry l = record {
  sum : l.steps ≡ sum_by (λ e. e.count) (take l.entry-index l.history);
  small : l.steps ≤ l.entry-index * 2 ^ 32;
}
