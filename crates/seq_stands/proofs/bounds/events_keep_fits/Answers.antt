use Rattle.seq_stands.proofs.FitStanding.{events_keep_fits, incarnations_grow}
use Rattle.seq_stands.proofs.bounds.events_keep_fits.Goals as goal

pub returns : goal.returns
returns c = record { bounds = events_keep_fits; grow = incarnations_grow }
