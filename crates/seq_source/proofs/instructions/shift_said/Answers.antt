use Rattle.seq_source.proofs.Fits.{shift_fits}
use Rattle.seq_source.proofs.instructions.shift_said.Goals as goal

pub returns-in-Some-amount_of-clause-word : goal.returns-in-Some-amount_of-clause-word
returns-in-Some-amount_of-clause-word c = shift_fits c.args.name _ _ _ c.in-Some-register_of.ensures.small c.in-Some-register_of-2.ensures.small c.in-Some-amount_of.ensures.fits
