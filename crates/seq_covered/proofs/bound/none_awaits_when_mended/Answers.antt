use Rattle.seq_covered.proofs.Uncovered.{none_awaits_when_mended}
use Rattle.seq_covered.proofs.bound.none_awaits_when_mended.Goals as goal

pub returns : goal.returns
returns c = none_awaits_when_mended
