use Rattle.seq_kernel.proofs.RefineCallsGrants.{claims_ask_for, asks_in_all_shown, grants_are_flat}
use Rattle.seq_kernel.proofs.laws.grants_are_flat.Goals as goal

pub returns-clause-claims : goal.returns-clause-claims
returns-clause-claims c = claims_ask_for

pub returns-clause-shown : goal.returns-clause-shown
returns-clause-shown c = asks_in_all_shown

pub returns-clause-granted : goal.returns-clause-granted
returns-clause-granted c = grants_are_flat
