use Rattle.seq_source.proofs.Fits.{immediate_again, store_fits}
use Rattle.seq_source.proofs.instructions.store_said.Goals as goal

pub returns-in-Some-immediate_of-clause-word : goal.returns-in-Some-immediate_of-clause-word
returns-in-Some-immediate_of-clause-word c = store_fits c.args.name _ _ _ c.in-Some-base.ensures.small c.in-Some-register_of.ensures.small (immediate_again _ c.in-Some-immediate_of.ensures.fits)
