use Rattle.seq_layout.proofs.FirstCopies.{written_elsewhere}
use Rattle.seq_layout.proofs.first_laws.written_elsewhere.Goals as goal

pub returns : goal.returns
returns c = written_elsewhere
