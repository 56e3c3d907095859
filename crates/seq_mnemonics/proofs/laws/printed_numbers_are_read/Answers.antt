use Rattle.seq_mnemonics.proofs.Numerals.{printed_numbers}
use Rattle.seq_mnemonics.proofs.laws.printed_numbers_are_read.Goals as goal

pub returns : goal.returns
returns c = printed_numbers
