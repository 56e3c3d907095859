use Rattle.seq_source.proofs.Fits.{branch_again, branch_fits}
use Rattle.seq_source.proofs.instructions.branch_said.Goals as goal

pub returns-in-Some-branch_offset_of-clause-word : goal.returns-in-Some-branch_offset_of-clause-word
returns-in-Some-branch_offset_of-clause-word c = branch_fits c.args.name _ _ _ c.in-Some-register_of.ensures.small c.in-Some-register_of-2.ensures.small (branch_again _ c.in-Some-branch_offset_of.ensures.fits)
