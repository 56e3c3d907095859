use Rattle.seq_mnemonics.proofs.Fitting.{ranges_are_exact}
use Rattle.seq_mnemonics.proofs.laws.ranges_are_exact.Goals as goal

pub returns : goal.returns
returns c = ranges_are_exact
