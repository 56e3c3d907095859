use Rattle.seq_layout.proofs.ContextsRead.{blocks_are_whole}
use Rattle.seq_layout.proofs.context.context_to_blocks.Goals as goal

pub returns-clause-whole : goal.returns-clause-whole
returns-clause-whole c = λ k within. rw c.blocks_of.ensures (blocks_are_whole _ k within)
