use Rattle.seq_stands.proofs.CountLeft.{left_is_few}
use Rattle.seq_stands.proofs.CountLeftEvents.{events_leave_few}
use Rattle.seq_stands.proofs.counts.few_turns_are_left.Goals as goal

pub returns : goal.returns
returns c = record { now = left_is_few; events = events_leave_few }
