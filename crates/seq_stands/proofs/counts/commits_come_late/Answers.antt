use Rattle.seq_stands.proofs.CountEvents.{commits_come_late, histories_grow_by_commits}
use Rattle.seq_stands.proofs.counts.commits_come_late.Goals as goal

pub returns : goal.returns
returns c = record { commits = commits_come_late; history = histories_grow_by_commits }
