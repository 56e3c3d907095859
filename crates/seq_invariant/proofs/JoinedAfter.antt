-- What is right, and done, of a machine of which all stands.
use Rattle.std.proofs.Common.{◌≡◌, Some, subst}
use Rattle.seq_flat.specs.Run.{flat_run}
use Rattle.seq_turns.specs.Events.{happens}
use Rattle.seq_lines.specs.Arrivals.{arrived}
use Rattle.seq_lines.proofs.Gives.{sent_is_right}
use Rattle.seq_lines.proofs.OffLines.{events_keep_inside}
use Rattle.seq_lines.proofs.Holders.{runs_have_holders}
use Rattle.seq_lines.proofs.Settles.{calm_is_steady, settled_is_done}
use Rattle.seq_turns.specs.Reading.{ruling}
use Rattle.seq_invariant.specs.JoinedKept.{InsideStandsOn, SentIsRightAfter, SentIsRightOn, SettledIsDoneAfter}
use Rattle.seq_invariant.proofs.BlockLines.{blocks_give_lines, steady_machines_hold}
use Rattle.seq_invariant.proofs.JoinedKept.{history_runs_on, lines_stand_on}

pub inside_stands_on : InsideStandsOn
inside_stands_on d events at m e described st = events_keep_inside d m e st.words (blocks_give_lines d at m described st.words st.blocks).within st.inside

pub sent_is_right_after : SentIsRightAfter
sent_is_right_after d events at m st = sent_is_right d (arrived d events) at.state m (subst (λ i. flat_run d i m.history ≡ Some at.state) st.input st.blocks.committed.run) st.lines

pub sent_is_right_on : SentIsRightOn
sent_is_right_on d events at m e described st ok =
    let on = history_runs_on d events at m e st ok in
    sent_is_right d _ on.0 (happens d m e) on.1 (lines_stand_on d events at m e on.0 described st ok on.1)

pub settled_is_done_after : SettledIsDoneAfter
settled_is_done_after d events at m described st settled =
    settled_is_done d (arrived d events) at.state at.commits m described st.blocks.committed.reached (runs_have_holders d at.inputs m.history at.state st.blocks.committed.run)
    (steady_machines_hold d at m described st.words st.blocks (λ q lt. calm_is_steady m (ruling d m.copies q) (settled.calm q lt))) st.lines settled
