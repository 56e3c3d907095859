use Rattle.seq_cache.proofs.LawsHold.{put_keeps_order}
use Rattle.seq_cache.proofs.laws.a_change_keeps_the_order.Goals as goal

pub returns : goal.returns
returns c = put_keeps_order
