use Rattle.seq_image.proofs.GrantsAhead.{grants_stay_ahead}
use Rattle.seq_image.proofs.TurnsAhead.{claims_ask}
use Rattle.seq_image.proofs.ahead.a_claim_stays_ahead.Goals as goal

pub returns-clause-asks : goal.returns-clause-asks
returns-clause-asks c = claims_ask

pub returns-clause-granted : goal.returns-clause-granted
returns-clause-granted c = grants_stay_ahead
