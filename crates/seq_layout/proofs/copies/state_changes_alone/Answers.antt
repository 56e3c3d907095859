use Rattle.seq_layout.proofs.CopiesLaws.{state_changes_alone}
use Rattle.seq_layout.proofs.copies.state_changes_alone.Goals as goal

pub returns : goal.returns
returns c = state_changes_alone
