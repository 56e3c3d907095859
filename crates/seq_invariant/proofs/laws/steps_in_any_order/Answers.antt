use Rattle.seq_invariant.proofs.Orders.{steps_in_any_order}
use Rattle.seq_invariant.proofs.laws.steps_in_any_order.Goals as goal

pub returns : goal.returns
returns c = steps_in_any_order
