use Rattle.seq_stands.proofs.Counted.{commits_are_counted}
use Rattle.seq_stands.proofs.counts.commits_have_their_turns.Goals as goal

pub returns : goal.returns
returns c = commits_are_counted
