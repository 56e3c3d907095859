use Rattle.seq_cli.proofs.Deterministic.{one_opening}
use Rattle.seq_cli.proofs.laws.one_opening.Goals as goal

pub returns : goal.returns
returns c = one_opening
