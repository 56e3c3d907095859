use Rattle.std.proofs.Common.{◌≡◌, ◌+◌, ◌≤◌, eqb, not, length, take}
use Rattle.std.specs.List.{suffix_len}
use Rattle.seq_source.proofs.reading.behind_last_comma.Given as goal

abbrev pub invariant-loop-start : goal.invariant-loop-start
invariant-loop-start l = (l.start ≤ length l.text) × (l.start + suffix_len (λ byte. not (eqb byte 44)) l.text ≡ length l.text + suffix_len (λ byte. not (eqb byte 44)) (take l.start l.text))

abbrev pub decreases-loop-start : goal.decreases-loop-start
decreases-loop-start l = l.start
