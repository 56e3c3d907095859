use Rattle.seq_source.proofs.Fits.{registers_fit}
use Rattle.seq_source.proofs.instructions.registers_said.Goals as goal

pub returns-clause-word : goal.returns-clause-word
returns-clause-word c = registers_fit c.args.name _ _ _ c.in-Some-register_of.ensures.small c.in-Some-register_of-2.ensures.small c.in-Some-register_of-3.ensures.small
