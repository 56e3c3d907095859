use Rattle.seq_list.proofs.ReadBack.{operands_are_read}
use Rattle.seq_list.proofs.laws.operands_are_read.Goals as goal

pub returns : goal.returns
returns c = operands_are_read
