use Rattle.seq_stands.proofs.CountEvents.{turns_go_on_by_one, others_stay, only_turns_go_on}
use Rattle.seq_stands.proofs.counts.turns_go_on.Goals as goal

pub returns : goal.returns
returns c = record { own = turns_go_on_by_one; others = others_stay; events = only_turns_go_on }
