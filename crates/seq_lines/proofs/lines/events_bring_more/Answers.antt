use Rattle.seq_lines.proofs.Arrivals.{events_bring_more}
use Rattle.seq_lines.proofs.lines.events_bring_more.Goals as goal

pub returns : goal.returns
returns c = events_bring_more
