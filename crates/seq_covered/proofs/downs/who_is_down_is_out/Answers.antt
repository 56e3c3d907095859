use Rattle.seq_covered.proofs.Sound.{down_is_out, struck_is_out, differing_is_out}
use Rattle.seq_covered.proofs.downs.who_is_down_is_out.Goals as goal

pub returns : goal.returns
returns c = record { down = down_is_out; struck = struck_is_out; differ = differing_is_out }
