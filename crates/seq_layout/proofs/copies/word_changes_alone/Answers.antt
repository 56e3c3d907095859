use Rattle.seq_layout.proofs.CopiesLaws.{word_changes_alone}
use Rattle.seq_layout.proofs.copies.word_changes_alone.Goals as goal

pub returns : goal.returns
returns c = word_changes_alone
