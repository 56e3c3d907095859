use Rattle.seq_invariant.proofs.PartsRunning.{running_is_ahead}
use Rattle.seq_invariant.proofs.parts.running_is_ahead.Goals as goal

pub returns : goal.returns
returns c = running_is_ahead
