use Rattle.seq_lines.proofs.Arrivals.{events_bring_input}
use Rattle.seq_lines.proofs.lines.events_bring_input.Goals as goal

pub returns : goal.returns
returns c = events_bring_input
