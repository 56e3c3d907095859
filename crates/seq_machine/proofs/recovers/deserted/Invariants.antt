-- Each process below the next one has a live holder, or none.
use Rattle.std.proofs.Common.{◌≡◌, slice_index, None}
use Rattle.seq_layout.specs.Copies.{copies}
use Rattle.seq_ruling.specs.Lowest.{lowest}
use Rattle.seq_ruling.specs.Ruling.{ruling, is_deserted}
use Rattle.seq_machine.proofs.recovers.deserted.Given as goal

abbrev pub invariant-loop-q : goal.invariant-loop-q
invariant-loop-q l = lowest (λ q. is_deserted (slice_index l.incarnations) (ruling l.layout (copies l.layout l.memories) q)) l.q ≡ None
