use Rattle.seq_stands.proofs.Law.{events_keep}
use Rattle.seq_stands.proofs.words.events_keep_what_stands.Goals as goal

pub returns : goal.returns
returns c = events_keep
