use Rattle.seq_layout.proofs.FirstCopies.{block_is_read_alone}
use Rattle.seq_layout.proofs.first_laws.block_is_read_alone.Goals as goal

pub returns : goal.returns
returns c = block_is_read_alone
