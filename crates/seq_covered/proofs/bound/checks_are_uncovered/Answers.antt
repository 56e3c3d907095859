use Rattle.seq_covered.proofs.Uncovered.{checks_are_uncovered}
use Rattle.seq_covered.proofs.bound.checks_are_uncovered.Goals as goal

pub returns : goal.returns
returns c = checks_are_uncovered
