use Rattle.seq_recount.proofs.Rooms.{passes_fit, ends_fit, stops_fit, nexts_fit, commits_fit}
use Rattle.seq_recount.proofs.laws.histories_fit.Goals as goal

pub returns : goal.returns
returns c = record { passes = passes_fit; ends = ends_fit; stops = stops_fit; nexts = nexts_fit; commits = commits_fit }
