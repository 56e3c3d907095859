-- What it gives that all stands.
use Rattle.std.proofs.Common.{◌≡◌, Some, subst}
use Rattle.seq_flat.specs.Run.{flat_run}
use Rattle.seq_turns.specs.Events.{run}
use Rattle.seq_invariant.proofs.JoinedAfter.{sent_is_right_after, sent_is_right_on, settled_is_done_after}
use Rattle.seq_invariant.specs.Gives.{CommittedIsFlatRun, SentIsRight, SentIsRightOn, RunsSendRight, SettledIsDone, at_first}
use Rattle.seq_invariant.proofs.Joined.{stands_after}
use Rattle.seq_invariant.proofs.Start.{runs_hold}

pub committed_is_flat_run : CommittedIsFlatRun
committed_is_flat_run d events m all = subst (λ i. flat_run d i m.history ≡ Some all.at.state) all.holds.input all.holds.blocks.committed.run

pub sent_is_right : SentIsRight
sent_is_right d events m all = sent_is_right_after d events all.at m (stands_after d events all.at m all.holds)

pub sent_is_right_then : SentIsRightOn
sent_is_right_then d events m e described all ok = sent_is_right_on d events all.at m e described (stands_after d events all.at m all.holds) ok

pub runs_send_right : RunsSendRight
runs_send_right d es described ok = sent_is_right d es (run d es (at_first d)) (runs_hold d es described ok)

pub settled_is_done : SettledIsDone
settled_is_done d events m all described settled = settled_is_done_after d events all.at m described (stands_after d events all.at m all.holds) settled
