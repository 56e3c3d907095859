use Rattle.seq_turns.proofs.Checks.{checks_name_a_blocker, stops_are_noted}
use Rattle.seq_turns.proofs.laws.checks_are_named.Goals as goal

pub returns : goal.returns
returns c = record { named = checks_name_a_blocker; noted = stops_are_noted }
