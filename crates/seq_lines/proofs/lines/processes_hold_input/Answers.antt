use Rattle.seq_lines.proofs.Gives.{processes_hold_input}
use Rattle.seq_lines.proofs.lines.processes_hold_input.Goals as goal

pub returns : goal.returns
returns c = processes_hold_input
