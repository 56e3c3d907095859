use Rattle.seq_stands.proofs.Fitting.{start_fit}
use Rattle.seq_stands.proofs.FitImage.{images_fit, machines_start_fit, machines_start_at_zero}
use Rattle.seq_stands.proofs.machines.machines_start_within_bounds.Goals as goal

pub returns : goal.returns
returns c = record { start = start_fit; images = images_fit; machines = machines_start_fit; numbers = machines_start_at_zero }
