-- Every event that ends no run keeps all that stands, with the bounds, and so does every list of events.
use Rattle.std.proofs.Common.{[], ◌∷◌, ◌++◌, sym, subst}
use Rattle.std.proofs.lemmas.List.{append-nil, append_assoc}
use Rattle.seq_turns.specs.Events.{happens, run}
use Rattle.seq_stands.proofs.Fitting.{events_keep_fit}
use Rattle.seq_stands.proofs.FitImage.{machines_start_fit}
use Rattle.seq_invariant.specs.Gives.{at_first}
use Rattle.seq_invariant.specs.Within.{HoldsWithin, StartHoldsWithin, EventsKeepWithin, RunsKeepWithin, RunsHoldWithin, RunsFit}
use Rattle.seq_invariant.proofs.Law.{events_keep_all}
use Rattle.seq_invariant.proofs.Start.{all_holds_at_start}
use Rattle.seq_invariant.proofs.InTime.{free_in_time, events_keep_in_time}

pub start_holds_within : StartHoldsWithin
start_holds_within d described = record {
  all = all_holds_at_start d described;
  fit = machines_start_fit d described;
  in_time = record { each = λ q c there. free_in_time d (at_first d) };
}

pub events_keep_within : EventsKeepWithin
events_keep_within d events m e described ok check st = record {
  all = events_keep_all d events m e described ok check st.all;
  fit = events_keep_fit d m e described ok check st.fit;
  in_time = events_keep_in_time d m e described ok st.all.holds.words st.in_time;
}

pub runs_keep_within : RunsKeepWithin
runs_keep_within d events [] m described ok st = subst (λ es. HoldsWithin d es m) (sym (append-nil events)) st
runs_keep_within d events (e ∷ es) m described ok st =
    subst (λ xs. HoldsWithin d xs (run d (e ∷ es) m)) (append_assoc events (e ∷ []) es) (runs_keep_within d (events ++ e ∷ []) es (happens d m e) described ok.2 (events_keep_within d events m e described ok.0 ok.1 st))

pub runs_hold_within : RunsHoldWithin
runs_hold_within d es described ok = runs_keep_within d [] es _ described ok (start_holds_within d described)

pub runs_fit : RunsFit
runs_fit d es described ok = (runs_hold_within d es described ok).fit
