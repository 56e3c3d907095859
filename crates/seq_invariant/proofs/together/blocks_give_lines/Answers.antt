use Rattle.seq_invariant.proofs.BlockLines.{blocks_give_lines}
use Rattle.seq_invariant.proofs.together.blocks_give_lines.Goals as goal

pub returns : goal.returns
returns c = blocks_give_lines
