use Rattle.seq_invariant.proofs.BlockInputs.{inputs_keep, strikes_keep}
use Rattle.seq_invariant.proofs.blocks.inputs_and_strikes_keep.Goals as goal

pub returns-clause-inputs : goal.returns-clause-inputs
returns-clause-inputs c = inputs_keep

pub returns-clause-strikes : goal.returns-clause-strikes
returns-clause-strikes c = strikes_keep
