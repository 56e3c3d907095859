use Rattle.seq_cache.proofs.ReadsHold.{reads_follow_first_copies}
use Rattle.seq_cache.proofs.laws.reads_follow_first_copies.Goals as goal

pub returns : goal.returns
returns c = reads_follow_first_copies
