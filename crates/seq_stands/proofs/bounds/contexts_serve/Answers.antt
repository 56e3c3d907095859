use Rattle.seq_stands.proofs.FitContexts.{contexts_serve}
use Rattle.seq_stands.proofs.bounds.contexts_serve.Goals as goal

pub returns : goal.returns
returns c = contexts_serve
