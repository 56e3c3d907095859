use Rattle.seq_mnemonics.proofs.Plainness.{printed_texts}
use Rattle.seq_mnemonics.proofs.laws.printed_texts_are_plain.Goals as goal

pub returns : goal.returns
returns c = printed_texts
