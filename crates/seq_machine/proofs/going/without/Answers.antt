use Rattle.seq_machine.proofs.Masks.{without_bit}
use Rattle.seq_machine.proofs.going.without.Goals as goal

pub returns : goal.returns
returns c t = without_bit c.args.held c.args.below t c.ranges.held.fits c.ranges.below.fits
