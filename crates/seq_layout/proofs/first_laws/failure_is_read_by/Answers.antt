use Rattle.seq_layout.proofs.FirstCopies.{failure_is_read_by}
use Rattle.seq_layout.proofs.first_laws.failure_is_read_by.Goals as goal

pub returns : goal.returns
returns c = failure_is_read_by
