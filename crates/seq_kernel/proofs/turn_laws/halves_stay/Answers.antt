use Rattle.seq_kernel.proofs.Halves.{strikes_leave_what_is_shown}
use Rattle.seq_kernel.proofs.TurnCauses.{turns_keep_halves}
use Rattle.seq_kernel.proofs.turn_laws.halves_stay.Goals as goal

pub returns : goal.returns
returns c = record { turns = turns_keep_halves; strikes = strikes_leave_what_is_shown }
