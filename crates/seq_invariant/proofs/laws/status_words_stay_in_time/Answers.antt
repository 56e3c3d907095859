use Rattle.seq_invariant.proofs.InTime.{events_keep_in_time}
use Rattle.seq_invariant.proofs.laws.status_words_stay_in_time.Goals as goal

pub returns : goal.returns
returns c = events_keep_in_time
