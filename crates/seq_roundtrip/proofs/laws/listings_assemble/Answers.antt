use Rattle.seq_roundtrip.proofs.Whole.{listings_assemble}
use Rattle.seq_roundtrip.proofs.laws.listings_assemble.Goals as goal

pub returns : goal.returns
returns c = listings_assemble
