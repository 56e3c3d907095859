-- With what stands of words and blocks, every event keeps what stands of the lines.
use Rattle.std.proofs.Common.{◌≡◌, inl, inr, ℕ, ◌++◌, [], ◌∷◌, List, Some, refl, ap, sym, ◌∙◌, subst}
use Rattle.std.proofs.lemmas.Bool.{cond_both}
use Rattle.std.proofs.lemmas.Option.{same_Some}
use Rattle.seq_words.specs.Description.{IsDescription}
use Rattle.seq_words.specs.declared.description.MachineDesc.{MachineDesc}
use Rattle.seq_flat.specs.declared.inputs.LineInput.{LineInput}
use Rattle.seq_flat.specs.declared.state.FlatState.{FlatState}
use Rattle.seq_flat.specs.Run.{flat_run}
use Rattle.seq_flat.specs.Laws.{MoreInput}
use Rattle.seq_flat.proofs.MoreInputs.{input_keeps_runs}
use Rattle.seq_process.specs.declared.running.Running.{Running}
use Rattle.seq_runs.proofs.Ahead.{input_keeps_ahead}
use Rattle.seq_runs.proofs.Growth.{entry_goes_on}
use Rattle.seq_words.specs.declared.kinds.Element.{Element}
use Rattle.seq_words.specs.declared.kinds.Element.TheVariants as element
use Rattle.seq_words.specs.declared.events.Event.{Event}
use Rattle.seq_words.specs.declared.events.Event.TheVariants as event
use Rattle.seq_turns.specs.Machines.{Machine, history_after}
use Rattle.seq_turns.specs.Duties.{rests}
use Rattle.seq_turns.specs.Allowed.{Allowed}
use Rattle.seq_turns.specs.Events.{after_io, stopped, is_down, fails, mends, happens}
use Rattle.seq_invariant.specs.BlockWorks.{Committed}
use Rattle.seq_lines.specs.Arrivals.{OpenFor, arrived}
use Rattle.seq_lines.specs.Known.{CommitsOutput}
use Rattle.seq_lines.specs.Turns.{EventIsKnown}
use Rattle.seq_lines.proofs.Arrivals.{events_bring_input, events_bring_more}
use Rattle.seq_lines.proofs.OffLines.{turns_are_off_lines}
use Rattle.seq_lines.proofs.Law.{events_keep_lines}
use Rattle.seq_invariant.specs.BlockLines.{GivesLines, IsToCommit}
use Rattle.seq_invariant.specs.JoinedKept.{StandsAfter, HistoryRunsOn, LinesStandOn}
use Rattle.seq_invariant.proofs.BlockLines.{blocks_give_lines, flushes_are_to_commit}
use Rattle.seq_invariant.proofs.JoinedCommits.{commits_as, commits_or_not}

module _ (d : MachineDesc) (events : List Event) (at : Committed) (m : Machine) (e : Event) (st : StandsAfter d events at m) (ok : Allowed d m e) where
  open_for : (x : Event) → Allowed d m x → OpenFor (arrived d events) x
  open_for (event.Input l byte) may = sym ((st.lines.line l.0 may.line).port.closed) ∙ may.unclosed
  open_for (event.Close l) may = sym ((st.lines.line l.0 may.line).port.closed) ∙ may.unclosed
  open_for (event.Processor p) may = tt
  open_for (event.Io i) may = tt
  open_for (event.Fail x) may = tt
  open_for (event.Repair x) may = tt
  open_for (event.Upset p half reg mask) may = tt
  open_for (event.Hangup l) may = tt

  pub more : MoreInput at.inputs (arrived d (events ++ e ∷ []))
  more = subst (λ i. MoreInput i (arrived d (events ++ e ∷ []))) (sym st.input) (events_bring_more d events e (open_for e ok))

  -- with the new input the history leads to the same state
  before : flat_run d (arrived d (events ++ e ∷ [])) m.history ≡ Some at.state
  before = input_keeps_runs d at.inputs (arrived d (events ++ e ∷ [])) m.history at.state more st.blocks.committed.run

  -- and a commit leads on from it
  committed_run : (r : Running) (to : IsToCommit d at r) → (happens d m e).history ≡ history_after (Some (record { pid = r.pid; count = r.steps })) m.history → flat_run d (arrived d (events ++ e ∷ [])) (happens d m e).history ≡ Some to.state
  committed_run r to h = ap (flat_run d (arrived d (events ++ e ∷ []))) h
      ∙ entry_goes_on d (arrived d (events ++ e ∷ [])) m.history r.pid.0 r.steps at.state to.state before (input_keeps_ahead d at.inputs (arrived d (events ++ e ∷ [])) to.area r.pid.0 r.steps at.state to.state more to.ahead).leads

  same_run : (happens d m e).history ≡ m.history → (now : FlatState) × (flat_run d (arrived d (events ++ e ∷ [])) (happens d m e).history ≡ Some now)
  same_run h = (at.state, ap (flat_run d (arrived d (events ++ e ∷ []))) h ∙ before)

-- events that are no turn of a processor leave the history
io_history : (d : MachineDesc) (m : Machine) (i : ℕ) → (after_io d m i).history ≡ m.history
io_history d m i = cond_both (rests d m i) _ _ (λ (n : Machine). n.history ≡ m.history) (λ _. refl) (λ _. refl)

fail_history : (d : MachineDesc) (m : Machine) (x : Element) → (fails d m x).history ≡ m.history
fail_history d m (element.Processor p) = cond_both (is_down (m.hand p.0)) m (stopped m p.0) (λ (n : Machine). n.history ≡ m.history) (λ _. refl) (λ _. refl)
fail_history d m (element.Memory i) = refl
fail_history d m (element.Io i) = refl

mend_history : (m : Machine) (x : Element) → (mends m x).history ≡ m.history
mend_history m (element.Processor p) = refl
mend_history m (element.Memory i) = refl
mend_history m (element.Io i) = refl

pub history_runs_on : HistoryRunsOn
history_runs_on d events at m (event.Processor p) st ok = elim (commits_or_not d at.state m p.0 (m.hand p.0) refl) [
  | inl same ↦ same_run d events at m (event.Processor p) st ok same
  | inr c ↦
      let to = flushes_are_to_commit d at m p.0 c.running c.why c.mask c.flush_of st.blocks c.hand in
      (to.state, committed_run d events at m (event.Processor p) st ok c.running to c.history)
]
history_runs_on d events at m (event.Io i) st ok = same_run d events at m (event.Io i) st ok (io_history d m i.0)
history_runs_on d events at m (event.Input l byte) st ok = same_run d events at m (event.Input l byte) st ok refl
history_runs_on d events at m (event.Close l) st ok = same_run d events at m (event.Close l) st ok refl
history_runs_on d events at m (event.Fail x) st ok = same_run d events at m (event.Fail x) st ok (fail_history d m x)
history_runs_on d events at m (event.Repair x) st ok = same_run d events at m (event.Repair x) st ok (mend_history m x)
history_runs_on d events at m (event.Upset p half reg mask) st ok = same_run d events at m (event.Upset p half reg mask) st ok refl
history_runs_on d events at m (event.Hangup l) st ok = same_run d events at m (event.Hangup l) st ok refl

module _ (d : MachineDesc) (events : List Event) (at : Committed) (m : Machine) (e : Event) (now : FlatState) (described : IsDescription d) (st : StandsAfter d events at m) (ok : Allowed d m e) (ran : flat_run d (arrived d (events ++ e ∷ [])) (happens d m e).history ≡ Some now) where
  abbrev inputs : List LineInput
  inputs = arrived d (events ++ e ∷ [])

  gives : GivesLines d at m
  gives = blocks_give_lines d at m described st.words st.blocks

  same_state : (happens d m e).history ≡ m.history → now ≡ at.state
  same_state h = same_Some now at.state (sym ran ∙ ap (flat_run d (arrived d (events ++ e ∷ []))) h ∙ before d events at m e st ok)

  committed_state : (r : Running) (to : IsToCommit d at r) → (happens d m e).history ≡ history_after (Some (record { pid = r.pid; count = r.steps })) m.history → now ≡ to.state
  committed_state r to h = same_Some now to.state (sym ran ∙ committed_run d events at m e st ok r to h)

pub lines_stand_on : LinesStandOn
lines_stand_on d events at m e now described st ok ran =
    events_keep_lines d (arrived d events) (arrived d (events ++ e ∷ [])) at.state now at.commits m e described st.blocks.committed.reached ok st.words
    ((events_bring_input d).next events e) (known e ok ran) st.lines
  where
    known : (x : Event) → Allowed d m x → flat_run d (arrived d (events ++ x ∷ [])) (happens d m x).history ≡ Some now → EventIsKnown d at.state now at.commits m x
    known (event.Processor p) may run = record {
      off = turns_are_off_lines d m p.0 described st.words ((gives d events at m (event.Processor p) now described st may run).within p.0) (st.inside p.0) ((gives d events at m (event.Processor p) now described st may run).units p.0);
      within = (gives d events at m (event.Processor p) now described st may run).within p.0;
      claims = (gives d events at m (event.Processor p) now described st may run).claims p.0;
      leads = commits_as d at.state now m p.0 (same_state d events at m (event.Processor p) now described st may run)
          (λ r why mask x is h.
          let to = flushes_are_to_commit d at m p.0 r why mask x st.blocks is in
          subst (λ s. CommitsOutput d at.state s r) (sym (committed_state d events at m (event.Processor p) now described st may run r to h)) to.output)
          (m.hand p.0) refl;
    }
    known (event.Io i) may run = ((gives d events at m (event.Io i) now described st may run).steady, same_state d events at m (event.Io i) now described st may run (io_history d m i.0))
    known (event.Input l byte) may run = same_state d events at m (event.Input l byte) now described st may run refl
    known (event.Close l) may run = same_state d events at m (event.Close l) now described st may run refl
    known (event.Fail x) may run = same_state d events at m (event.Fail x) now described st may run (fail_history d m x)
    known (event.Repair x) may run = same_state d events at m (event.Repair x) now described st may run (mend_history m x)
    known (event.Upset p half reg mask) may run = same_state d events at m (event.Upset p half reg mask) now described st may run refl
    known (event.Hangup l) may run = same_state d events at m (event.Hangup l) now described st may run refl
