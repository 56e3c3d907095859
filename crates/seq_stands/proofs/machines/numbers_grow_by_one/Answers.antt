use Rattle.seq_stands.proofs.FitNumbers.{numbers_grow}
use Rattle.seq_stands.proofs.machines.numbers_grow_by_one.Goals as goal

pub returns : goal.returns
returns c = numbers_grow
