use Rattle.seq_mnemonics.proofs.Tables.{names_are_exact}
use Rattle.seq_mnemonics.proofs.laws.names_are_exact.Goals as goal

pub returns : goal.returns
returns c = names_are_exact
