use Rattle.seq_kernel.proofs.CountedTurns.{turns_are_counted, unused_stay}
use Rattle.seq_kernel.proofs.laws.turns_are_counted.Goals as goal

pub returns-clause-counted : goal.returns-clause-counted
returns-clause-counted c = turns_are_counted

pub returns-clause-unused : goal.returns-clause-unused
returns-clause-unused c = unused_stay
