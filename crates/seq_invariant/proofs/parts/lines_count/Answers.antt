use Rattle.seq_invariant.proofs.PartsLines.{lines_count}
use Rattle.seq_invariant.proofs.parts.lines_count.Goals as goal

pub returns : goal.returns
returns c = lines_count
