use Rattle.seq_layout.proofs.CopiesLaws.{block_changes_alone}
use Rattle.seq_layout.proofs.copies.block_changes_alone.Goals as goal

pub returns : goal.returns
returns c = block_changes_alone
