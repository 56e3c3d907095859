use Rattle.seq_kernel.proofs.TurnCauses.{turns_have_their_cause}
use Rattle.seq_kernel.proofs.turn_laws.turns_have_their_cause.Goals as goal

pub returns : goal.returns
returns c = turns_have_their_cause
