use Rattle.seq_cache.proofs.ReadsHold.{changes_are_read_first}
use Rattle.seq_cache.proofs.laws.changes_are_read_first.Goals as goal

pub returns : goal.returns
returns c = changes_are_read_first
