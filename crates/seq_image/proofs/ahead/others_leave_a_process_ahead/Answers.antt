use Rattle.seq_image.proofs.StaysAhead.{others_leave_ahead, more_input_leaves_ahead}
use Rattle.seq_image.proofs.ahead.others_leave_a_process_ahead.Goals as goal

pub returns-clause-commits : goal.returns-clause-commits
returns-clause-commits c = others_leave_ahead

pub returns-clause-input : goal.returns-clause-input
returns-clause-input c = more_input_leaves_ahead
