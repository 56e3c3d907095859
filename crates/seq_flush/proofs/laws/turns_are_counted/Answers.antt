use Rattle.seq_flush.proofs.LawsHold.{turns_are_counted}
use Rattle.seq_flush.proofs.laws.turns_are_counted.Goals as goal

pub returns : goal.returns
returns c = turns_are_counted
