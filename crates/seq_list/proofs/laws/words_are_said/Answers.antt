use Rattle.seq_list.proofs.ReadBack.{words_are_said}
use Rattle.seq_list.proofs.laws.words_are_said.Goals as goal

pub returns : goal.returns
returns c = words_are_said
