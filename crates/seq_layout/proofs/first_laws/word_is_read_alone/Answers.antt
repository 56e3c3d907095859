use Rattle.seq_layout.proofs.FirstCopies.{word_is_read_alone}
use Rattle.seq_layout.proofs.first_laws.word_is_read_alone.Goals as goal

pub returns : goal.returns
returns c = word_is_read_alone
