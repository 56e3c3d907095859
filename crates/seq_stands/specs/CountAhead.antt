-- How far a flush is on its way to its commit.
use Rattle.std.specs.Prelude.{ℕ}
use Rattle.seq_flush.specs.Turns.{taken_in_mark, taken_in_first}
use Rattle.seq_turns.specs.declared.hand.Hand.{Hand}
use Rattle.seq_turns.specs.declared.hand.Hand.TheVariants as hand
use Rattle.seq_turns.specs.declared.hand.FlushAt.{FlushAt}
use Rattle.seq_turns.specs.declared.hand.FlushAt.TheVariants as flush

-- how many turns of Mark and First a flush has taken, as long as it is in one of these
abbrev pub flush_ahead : FlushAt → ℕ
flush_ahead (flush.Mark f) = taken_in_mark f
flush_ahead (flush.First f) = taken_in_first f
flush_ahead (flush.Second f) = 0
flush_ahead (flush.Close f) = 0

-- the same of a processor with this hand: none where it doesn't flush
abbrev pub ahead : Hand → ℕ
ahead (hand.Flushing r cause mask f) = flush_ahead f
ahead hand.Down = 0
ahead hand.Seek = 0
ahead (hand.Claiming q c) = 0
ahead (hand.Running r) = 0
ahead (hand.Acquiring r t c) = 0
ahead (hand.Unlocking r cause mask l) = 0
ahead (hand.Leaving q l) = 0
ahead (hand.Recovering r) = 0
