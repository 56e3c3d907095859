use Rattle.seq_layout.proofs.CopiesLaws.{memory_fails_alone}
use Rattle.seq_layout.proofs.copies.memory_fails_alone.Goals as goal

pub returns : goal.returns
returns c = memory_fails_alone
