use Rattle.seq_text.specs.Lines.{lines_of}
use Rattle.seq_schedule.proofs.There.{there_from}
use Rattle.seq_schedule.proofs.laws.items_are_there.Goals as goal

pub returns : goal.returns
returns c = λ gate d text e. there_from gate d 1 _ (lines_of text) e
