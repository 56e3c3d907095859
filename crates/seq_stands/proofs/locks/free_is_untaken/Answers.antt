use Rattle.seq_stands.proofs.LockFree.{free_is_untaken}
use Rattle.seq_stands.proofs.locks.free_is_untaken.Goals as goal

pub returns : goal.returns
returns c = free_is_untaken
