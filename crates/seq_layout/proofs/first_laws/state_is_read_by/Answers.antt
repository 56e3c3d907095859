use Rattle.seq_layout.proofs.FirstCopies.{state_is_read_by}
use Rattle.seq_layout.proofs.first_laws.state_is_read_by.Goals as goal

pub returns : goal.returns
returns c = state_is_read_by
