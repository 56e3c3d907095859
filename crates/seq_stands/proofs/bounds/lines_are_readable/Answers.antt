use Rattle.seq_stands.proofs.FitReadable.{lines_are_readable}
use Rattle.seq_stands.proofs.bounds.lines_are_readable.Goals as goal

pub returns : goal.returns
returns c = lines_are_readable
