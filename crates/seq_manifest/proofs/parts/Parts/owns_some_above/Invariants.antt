use Rattle.std.proofs.Common.{◌≡◌, ◌&&◌, nat_lt}
use Rattle.seq_manifest.specs.Drafts.{said_by}
use Rattle.seq_manifest.specs.Faults.{is_owned, some_below}
use Rattle.seq_manifest.proofs.parts.Parts.owns_some_above.Given as goal

abbrev pub invariant-loop-line : goal.invariant-loop-line
invariant-loop-line l = l.some ≡ some_below l.line (λ n. nat_lt l.below n && is_owned (said_by l.self) n)
