use Rattle.seq_mnemonics.proofs.Tables.{printed_registers}
use Rattle.seq_mnemonics.proofs.laws.printed_registers_are_read.Goals as goal

pub returns : goal.returns
returns c = printed_registers
