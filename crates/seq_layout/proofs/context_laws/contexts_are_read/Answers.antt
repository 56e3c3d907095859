use Rattle.seq_layout.proofs.ContextsRead.{contexts_are_read, blocks_hold_one_context, parts_are_numbered, context_blocks_are_whole}
use Rattle.seq_layout.proofs.context_laws.contexts_are_read.Goals as goal

pub returns : goal.returns
returns c = record { read = contexts_are_read; one = blocks_hold_one_context; parts = parts_are_numbered; whole = context_blocks_are_whole }
