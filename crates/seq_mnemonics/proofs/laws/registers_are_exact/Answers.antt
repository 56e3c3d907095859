use Rattle.seq_mnemonics.proofs.Tables.{registers_are_exact}
use Rattle.seq_mnemonics.proofs.laws.registers_are_exact.Goals as goal

pub returns : goal.returns
returns c = registers_are_exact
