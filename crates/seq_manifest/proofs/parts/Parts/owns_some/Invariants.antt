use Rattle.std.proofs.Common.{◌≡◌, ◌&&◌}
use Rattle.seq_words.specs.Masks.{has_bit}
use Rattle.seq_manifest.specs.Drafts.{said_by}
use Rattle.seq_manifest.specs.Faults.{is_owned, some_below}
use Rattle.seq_manifest.proofs.parts.Parts.owns_some.Given as goal

abbrev pub invariant-loop-line : goal.invariant-loop-line
invariant-loop-line l = l.some ≡ some_below l.line (λ n. has_bit l.mask n && is_owned (said_by l.self) n)
