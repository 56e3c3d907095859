use Rattle.seq_stands.proofs.FitStanding.{runs_keep_fits}
use Rattle.seq_stands.proofs.bounds.runs_keep_fits.Goals as goal

pub returns : goal.returns
returns c = runs_keep_fits
