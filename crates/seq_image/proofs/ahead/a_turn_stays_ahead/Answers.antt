use Rattle.seq_image.proofs.TurnsAhead.{turns_stay_ahead}
use Rattle.seq_image.proofs.ahead.a_turn_stays_ahead.Goals as goal

pub returns : goal.returns
returns c = turns_stay_ahead
