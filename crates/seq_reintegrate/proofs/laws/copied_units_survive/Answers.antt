use Rattle.seq_reintegrate.proofs.Elsewhere.{copying_survives}
use Rattle.seq_reintegrate.proofs.laws.copied_units_survive.Goals as goal

pub returns : goal.returns
returns c = copying_survives
