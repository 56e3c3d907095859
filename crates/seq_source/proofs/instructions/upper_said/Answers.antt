use Rattle.seq_source.proofs.Fits.{upper_fits}
use Rattle.seq_source.proofs.instructions.upper_said.Goals as goal

pub returns-in-Some-upper_of-clause-word : goal.returns-in-Some-upper_of-clause-word
returns-in-Some-upper_of-clause-word c = upper_fits c.args.name _ _ c.in-Some-register_of.ensures.small c.in-Some-upper_of.ensures.fits
