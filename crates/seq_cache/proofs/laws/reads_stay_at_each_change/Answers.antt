use Rattle.seq_cache.proofs.ReadsHold.{reads_stay_at_each_change}
use Rattle.seq_cache.proofs.laws.reads_stay_at_each_change.Goals as goal

pub returns : goal.returns
returns c = reads_stay_at_each_change
