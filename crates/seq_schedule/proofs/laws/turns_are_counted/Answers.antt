use Rattle.seq_schedule.proofs.Turns.{counted}
use Rattle.seq_schedule.proofs.laws.turns_are_counted.Goals as goal

pub returns : goal.returns
returns c = λ d s h. counted d s h
