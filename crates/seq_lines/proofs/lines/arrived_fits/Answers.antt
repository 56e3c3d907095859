use Rattle.seq_lines.proofs.Gives.{arrived_fits}
use Rattle.seq_lines.proofs.lines.arrived_fits.Goals as goal

pub returns : goal.returns
returns c = arrived_fits
