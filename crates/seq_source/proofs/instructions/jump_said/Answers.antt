use Rattle.seq_source.proofs.Fits.{jump_again, jump_fits}
use Rattle.seq_source.proofs.instructions.jump_said.Goals as goal

pub returns-in-Some-jump_offset_of-clause-word : goal.returns-in-Some-jump_offset_of-clause-word
returns-in-Some-jump_offset_of-clause-word c = jump_fits _ _ c.in-Some-register_of.ensures.small (jump_again _ c.in-Some-jump_offset_of.ensures.fits)
