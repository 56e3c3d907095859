-- No processor below the next one is marked.
use Rattle.std.proofs.Common.{◌≡◌, None}
use Rattle.seq_ruling.specs.Lowest.{lowest}
use Rattle.seq_reintegrate.specs.Gate.{is_marked}
use Rattle.seq_reintegrate.proofs.gating.gate.Given as goal

abbrev pub invariant-loop-at : goal.invariant-loop-at
invariant-loop-at l = lowest (is_marked l.hands) l.at ≡ None
