use Rattle.seq_status.proofs.WordLaws.{statuses_are_read_back, statuses_have_the_format, statuses_fit, held_is_not_zero}
use Rattle.seq_status.proofs.laws.statuses_are_read_back.Goals as goal

pub returns : goal.returns
returns c = record { read_back = statuses_are_read_back; inside = statuses_have_the_format; fits = statuses_fit; held = held_is_not_zero }
