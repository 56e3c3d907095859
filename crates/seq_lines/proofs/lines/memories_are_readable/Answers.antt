use Rattle.seq_lines.proofs.Gives.{memories_are_readable}
use Rattle.seq_lines.proofs.lines.memories_are_readable.Goals as goal

pub returns : goal.returns
returns c = memories_are_readable
