use Rattle.seq_layout.proofs.Owners.{owners_are_alone}
use Rattle.seq_layout.proofs.laws.owners_are_alone.Goals as goal

pub returns : goal.returns
returns c = owners_are_alone
