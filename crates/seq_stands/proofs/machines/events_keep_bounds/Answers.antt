use Rattle.seq_stands.proofs.Fitting.{events_keep_fit}
use Rattle.seq_stands.proofs.machines.events_keep_bounds.Goals as goal

pub returns : goal.returns
returns c = events_keep_fit
