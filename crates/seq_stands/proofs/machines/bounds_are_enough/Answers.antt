use Rattle.seq_stands.proofs.FitGives.{fit_gives}
use Rattle.seq_stands.proofs.machines.bounds_are_enough.Goals as goal

pub returns : goal.returns
returns c = fit_gives
