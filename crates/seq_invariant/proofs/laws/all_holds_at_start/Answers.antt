use Rattle.seq_invariant.proofs.Start.{all_holds_at_start}
use Rattle.seq_invariant.proofs.laws.all_holds_at_start.Goals as goal

pub returns : goal.returns
returns c = all_holds_at_start
