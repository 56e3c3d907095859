-- With what stands of the blocks after an event, all stands after it.
use Rattle.std.proofs.Common.{◌≡◌, ℕ, false, List, [], ◌∷◌, ◌++◌, Some, refl, sym, ◌∙◌, subst}
use Rattle.std.proofs.Math.Path.{fun_ext}
use Rattle.std.proofs.lemmas.Option.{same_Some}
use Rattle.seq_words.specs.Description.{IsDescription}
use Rattle.seq_words.specs.declared.description.MachineDesc.{MachineDesc}
use Rattle.seq_words.specs.declared.events.Event.{Event}
use Rattle.seq_flat.specs.declared.inputs.LineInput.{LineInput}
use Rattle.seq_flat.specs.declared.state.FlatState.{FlatState}
use Rattle.seq_flat.specs.Laws.{MoreInput}
use Rattle.seq_flat.specs.Run.{flat_run}
use Rattle.seq_turns.specs.Machines.{Machine}
use Rattle.seq_turns.specs.Allowed.{Allowed}
use Rattle.seq_turns.specs.Events.{happens, is_check}
use Rattle.seq_stands.specs.Locks.{LocksStand}
use Rattle.seq_stands.proofs.Law.{events_keep}
use Rattle.seq_stands.specs.LockOwners.{owners_made}
use Rattle.seq_stands.proofs.LockLaw.{events_keep_locks}
use Rattle.seq_stands.proofs.FitStanding.{events_keep_fits}
use Rattle.seq_invariant.specs.BlockApart.{owners_of}
use Rattle.seq_invariant.specs.BlockWorks.{Committed}
use Rattle.seq_invariant.specs.BlockStanding.{BlocksStand}
use Rattle.seq_invariant.specs.BlockInputs.{with_inputs}
use Rattle.seq_lines.specs.Arrivals.{arrived}
use Rattle.seq_lines.specs.Lines.{LinesStand}
use Rattle.seq_lines.proofs.Gives.{arrived_fits}
use Rattle.seq_invariant.specs.JoinedKept.{StandsAfter}
use Rattle.seq_invariant.proofs.JoinedKept.{more, history_runs_on, lines_stand_on}
use Rattle.seq_invariant.proofs.JoinedAfter.{inside_stands_on}
use Rattle.seq_invariant.specs.Holds.{Holds, AllHolds}
use Rattle.seq_invariant.proofs.Same.{inputs_grow}
use Rattle.seq_invariant.proofs.Takes.{takes_locks, takes_bounds}

-- What stands of the blocks after an event: over what is committed then, with the input that was there before it, and with the owners
-- that the event made.
pub record EventMade (d : MachineDesc) (at : Committed) (m : Machine) (e : Event) : Type 0 where
  pub now : Committed
  pub inputs : now.inputs ≡ at.inputs
  pub owners : (t : ℕ) → owners_of now.state t ≡ owners_made d (owners_of at.state) m e t
  pub blocks : BlocksStand d now (happens d m e)

-- what the lines go by
pub stands_after : (d : MachineDesc) (events : List Event) (at : Committed) (m : Machine) → Holds d events at m → StandsAfter d events at m
stands_after d events at m st = record { words = st.words; blocks = st.blocks; input = st.input; inside = st.inside; lines = st.lines }

module _ (d : MachineDesc) (events : List Event) (at : Committed) (m : Machine) (e : Event) (described : IsDescription d) (ok : Allowed d m e) (check : is_check d m e ≡ false) (st : Holds d events at m) (made : EventMade d at m e) where
  abbrev n : Machine
  n = happens d m e

  abbrev inputs : List LineInput
  inputs = arrived d (events ++ e ∷ [])

  after : StandsAfter d events at m
  after = stands_after d events at m st

  ran : (now : FlatState) × (flat_run d (arrived d (events ++ e ∷ [])) (happens d m e).history ≡ Some now)
  ran = history_runs_on d events at m e after ok

  lines : LinesStand d (arrived d (events ++ e ∷ [])) ran.0 (happens d m e)
  lines = lines_stand_on d events at m e ran.0 described after ok ran.1

  blocks : BlocksStand d (with_inputs made.now (arrived d (events ++ e ∷ []))) (happens d m e)
  blocks = inputs_grow d made.now n inputs (subst (λ i. MoreInput i inputs) (sym made.inputs) (more d events at m e after ok)) (arrived_fits d (events ++ e ∷ []) ran.0 n lines) made.blocks

  same : ran.0 ≡ made.now.state
  same = same_Some ran.0 made.now.state (sym ran.1 ∙ blocks.committed.run)

  pub all_holds : AllHolds d (events ++ e ∷ []) (happens d m e)
  all_holds = record {
    at = with_inputs made.now inputs;
    holds = record {
      words = events_keep d m e described ok check st.words;
      locks = subst (λ o. LocksStand d o n) (sym (fun_ext made.owners)) (events_keep_locks d (owners_of at.state) m e described ok check st.words (takes_locks d at m described st.words st.locks st.blocks e) st.locks);
      fits = events_keep_fits d m e described ok st.words (takes_bounds d at m described st.words st.locks st.blocks e) st.fits;
      blocks = blocks;
      input = refl;
      inside = inside_stands_on d events at m e described after;
      lines = subst (λ f. LinesStand d inputs f n) same lines;
    };
  }

  -- what is committed then has the owners that the event made
  pub owners_hold : (t : ℕ) → owners_of all_holds.at.state t ≡ owners_made d (owners_of at.state) m e t
  unfolding all_holds
  owners_hold = made.owners
