use Rattle.seq_stands.proofs.FitStanding.{start_fits}
use Rattle.seq_stands.proofs.bounds.start_fits.Goals as goal

pub returns : goal.returns
returns c = start_fits
