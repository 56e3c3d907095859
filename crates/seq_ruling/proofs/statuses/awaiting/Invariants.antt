-- No process below the next one awaits recovery.
use Rattle.std.proofs.Common.{◌≡◌, slice_index, None}
use Rattle.seq_layout.specs.Copies.{copies}
use Rattle.seq_ruling.specs.Lowest.{lowest}
use Rattle.seq_ruling.specs.Ruling.{awaits_recovery}
use Rattle.seq_ruling.proofs.statuses.awaiting.Given as goal

abbrev pub invariant-loop-q : goal.invariant-loop-q
invariant-loop-q l = lowest (awaits_recovery l.layout (copies l.layout l.memories) (slice_index l.incarnations)) l.q ≡ None
