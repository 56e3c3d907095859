use Rattle.seq_invariant.proofs.PartsMemories.{status_words_name}
use Rattle.seq_invariant.proofs.parts.status_words_name.Goals as goal

pub returns : goal.returns
returns c = status_words_name
