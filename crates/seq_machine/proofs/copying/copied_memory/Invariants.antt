-- No memory below the next one is to be copied.
use Rattle.std.proofs.Common.{◌≡◌, None}
use Rattle.seq_layout.specs.Copies.{copies}
use Rattle.seq_ruling.specs.Lowest.{lowest}
use Rattle.seq_turns.specs.Reading.{is_copied}
use Rattle.seq_machine.proofs.copying.copied_memory.Given as goal

abbrev pub invariant-loop-at : goal.invariant-loop-at
invariant-loop-at l = lowest (λ i. is_copied ((copies l.layout l.memories).state i)) l.at ≡ None
