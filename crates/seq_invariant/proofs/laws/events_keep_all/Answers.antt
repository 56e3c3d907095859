use Rattle.seq_invariant.proofs.Law.{events_keep_all}
use Rattle.seq_invariant.proofs.laws.events_keep_all.Goals as goal

pub returns : goal.returns
returns c = events_keep_all
