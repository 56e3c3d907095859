-- A move of a processor that writes no block, or one amid a pass of a flush, keeps what stands of the blocks.
use Rattle.std.proofs.Common.{◌≡◌, inl, inr, ℕ, true, None, refl, ap, sym, ◌∙◌}
use Rattle.seq_words.specs.declared.description.MachineDesc.{MachineDesc}
use Rattle.seq_flat.specs.Run.{flat_run}
use Rattle.seq_layout.specs.Shapes.{shape_of}
use Rattle.seq_cache.specs.Changes.{IsCache}
use Rattle.seq_runs.specs.Histories.{entry_count}
use Rattle.seq_turns.specs.Machines.{Machine, Move, Turn, history_after, copies_after, after_move}
use Rattle.seq_turns.specs.Machines.Turn.{Moves}
use Rattle.seq_turns.specs.Events.{after_turn}
use Rattle.seq_stands.specs.Locks.{held_in, owners_with, owners_after}
use Rattle.seq_invariant.specs.BlockApart.{owners_of}
use Rattle.seq_invariant.specs.BlockAreas.{hand_area, Rests}
use Rattle.seq_invariant.specs.BlockWorks.{Committed, committed_blocks}
use Rattle.seq_invariant.specs.BlockStanding.{IsCommitted, BlocksStand}
use Rattle.seq_invariant.specs.BlockFrame.{IsWithin, IsApart, KeepsLeft, IsAmidPass}
use Rattle.seq_invariant.specs.BlockTurns.{AfterMove}
use Rattle.seq_invariant.proofs.BlockFrame.{moves_keep_blocks}
use Rattle.seq_invariant.proofs.BlockInside.{extents_rest}
use Rattle.seq_invariant.proofs.Kept.{IsQuiet}

-- What stands of the blocks after a turn: over what is committed then, with the same input, and with the owners that the turn made.
pub record TurnMade (d : MachineDesc) (at : Committed) (m : Machine) (p : ℕ) (t : Turn) : Type 0 where
  pub now : Committed
  pub inputs : now.inputs ≡ at.inputs
  pub owners : (s : ℕ) → owners_of now.state s ≡ owners_after (owners_of at.state) m p t s
  pub blocks : BlocksStand d now (after_turn d m p t)

-- without a commit, what is committed stays
pub same_committed : (d : MachineDesc) (at : Committed) (m : Machine) (p : ℕ) (move : Move) → move.commit ≡ None → IsCommitted d at m → IsCommitted d at (after_move p move m)
same_committed d at m p move none is =
    let same : (after_move p move m).history ≡ m.history = ap (λ c. history_after c m.history) none in
    record {
      run = ap (flat_run d at.inputs) same ∙ is.run;
      commits = λ q. is.commits q ∙ ap (entry_count q) (sym same);
      reached = is.reached;
      fit = is.fit;
    }

module _ (d : MachineDesc) (at : Committed) (m : Machine) (p : ℕ) (move : Move) (none : move.commit ≡ None) (st : BlocksStand d at m) (apart : IsApart d m p) (left : KeepsLeft d m (after_move p move m))
    (knows : AfterMove d at m move) (cache : IsCache move.cache) where
  owners_stay : (s : ℕ) → owners_of at.state s ≡ owners_after (owners_of at.state) m p (Moves move) s
  owners_stay s = sym (ap (λ c. owners_with (owners_of at.state) (held_in (m.hand p)) c s) none)

  pub quiet_blocks : IsQuiet d move.change → (IsAmidPass (m.hand p) → ⊥) → BlocksStand d at (after_move p move m)
  quiet_blocks quiet calm = moves_keep_blocks d at at m p move st (same_committed d at m p move none st.committed) (quiet.within (hand_area d (m.hand p))) apart left
      (record { hands = λ r ne k. k; blocks = λ e n lt out. refl })
      (record { knows = knows; cache = cache; rests = λ e is. inr (rests e (extents_rest d at m.copies (m.cache p) (m.hand p) e calm is (st.hands p))) })
    where
      rests : (e : ℕ) → Rests (shape_of d) m.copies (committed_blocks d at) e → Rests (shape_of d) (copies_after move.change m.copies) (committed_blocks d at) e
      rests e h = record { each = λ n c serving. quiet.blocks m.copies.block e n c ∙ h.each n c serving }

  pub quiet_made : IsQuiet d move.change → (IsAmidPass (m.hand p) → ⊥) → TurnMade d at m p (Moves move)
  quiet_made quiet calm = record { now = at; inputs = refl; owners = owners_stay; blocks = quiet_blocks quiet calm }

  pub pass_made : IsWithin d (hand_area d (m.hand p)) move.change → ((e : ℕ) → hand_area d (m.hand p) e ≡ true → hand_area d move.hand e ≡ true) → TurnMade d at m p (Moves move)
  pass_made within stays = record {
    now = at;
    inputs = refl;
    owners = owners_stay;
    blocks = moves_keep_blocks d at at m p move st (same_committed d at m p move none st.committed) within apart left
        (record { hands = λ r ne k. k; blocks = λ e n lt out. refl })
        (record { knows = knows; cache = cache; rests = λ e is. inl (stays e is) });
  }
