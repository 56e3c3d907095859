use Rattle.seq_mnemonics.proofs.Tables.{statements_are_exact}
use Rattle.seq_mnemonics.proofs.laws.statements_are_exact.Goals as goal

pub returns : goal.returns
returns c = statements_are_exact
