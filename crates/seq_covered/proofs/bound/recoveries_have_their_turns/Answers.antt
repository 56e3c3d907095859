use Rattle.seq_covered.proofs.Seconds.{recoveries_take_a_half}
use Rattle.seq_covered.proofs.bound.recoveries_have_their_turns.Goals as goal

pub returns : goal.returns
returns c = recoveries_take_a_half
