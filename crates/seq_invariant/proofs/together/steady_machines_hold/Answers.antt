use Rattle.seq_invariant.proofs.BlockLines.{steady_machines_hold}
use Rattle.seq_invariant.proofs.together.steady_machines_hold.Goals as goal

pub returns : goal.returns
returns c = steady_machines_hold
