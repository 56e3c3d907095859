use Rattle.seq_stands.proofs.CountBegins.{copying_begins_none}
use Rattle.seq_stands.proofs.CountLeftEvents.{own_turns_lower, others_raise_none, left_runs_out}
use Rattle.seq_stands.proofs.counts.turns_left_fall.Goals as goal

pub returns : goal.returns
returns c = record { own = own_turns_lower; others = others_raise_none; runs_out = left_runs_out; copying = copying_begins_none }
