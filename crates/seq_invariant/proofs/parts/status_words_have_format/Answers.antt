use Rattle.seq_invariant.proofs.PartsFormat.{status_words_have_format}
use Rattle.seq_invariant.proofs.parts.status_words_have_format.Goals as goal

pub returns : goal.returns
returns c = status_words_have_format
