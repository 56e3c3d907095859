use Rattle.seq_invariant.proofs.Within.{start_holds_within, events_keep_within, runs_keep_within, runs_hold_within, runs_fit}
use Rattle.seq_invariant.proofs.laws.runs_stay_within_bounds.Goals as goal

pub returns : goal.returns
returns c = record { start = start_holds_within; events = events_keep_within; on = runs_keep_within; runs = runs_hold_within; fit = runs_fit }
