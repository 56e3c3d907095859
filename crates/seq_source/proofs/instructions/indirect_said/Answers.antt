use Rattle.seq_source.proofs.Fits.{immediate_again, indirect_fits}
use Rattle.seq_source.proofs.instructions.indirect_said.Goals as goal

pub returns-in-Some-immediate_of-clause-word : goal.returns-in-Some-immediate_of-clause-word
returns-in-Some-immediate_of-clause-word c = indirect_fits c.args.name _ _ _ c.in-Some-register_of.ensures.small c.in-Some-base.ensures.small (immediate_again _ c.in-Some-immediate_of.ensures.fits)
