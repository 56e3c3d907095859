use Rattle.seq_kernel.proofs.TurnCauses.{turns_keep_halves}
use Rattle.seq_image.proofs.Halves.{strikes_leave_ahead}
use Rattle.seq_image.proofs.ahead.halves_and_strikes.Goals as goal

pub returns-clause-turns : goal.returns-clause-turns
returns-clause-turns c = turns_keep_halves

pub returns-clause-strikes : goal.returns-clause-strikes
returns-clause-strikes c = strikes_leave_ahead
